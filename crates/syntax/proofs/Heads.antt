-- What the first frames of a sheet tell is what its tree has.
use Rattle.std.proofs.Common.{◌≡◌, ℕ, zero, suc, ◌+◌, ◌<◌, ◌≤◌, true, List, [], ◌∷◌, map, length, get_or, Some, None, sym, refl, ap, ◌∙◌, le_of_suc-le-suc, not-suc-le-zero, add-one, arith}
use Rattle.std.specs.List.{slice_get}
use Rattle.std.proofs.lemmas.Option.{slice_get-get_or, slice_get_past}
use Rattle.syntax.specs.declared.frame.Frame.{Frame}
use Rattle.syntax.specs.declared.frame.«Type».{«Type» as Ty}
use Rattle.syntax.specs.declared.frame.«Type».TheVariants.{Void}
use Rattle.syntax.specs.declared.frame.Parameter.{Parameter}
use Rattle.syntax.specs.Trees.{Definition}
use Rattle.syntax.specs.Writing.{Token, END, write_stmts, write_params, written, frame_of, type_code, blank}
use Rattle.syntax.specs.Form.{is_sheet}
use Rattle.syntax.specs.Law.{OfTree}
use Rattle.syntax.specs.Heads.{head, param_frame, ParamAt}
use Rattle.syntax.proofs.Types.{type_code_once}
use Rattle.syntax.proofs.Law.{sheet_tree}
use Rattle.syntax.proofs.Lengths.{length_written}

getD_params : (ps : List Parameter) (r : List Token) (i : ℕ) (z : Parameter) → i < length ps → get_or (map frame_of (write_params ps r)) i blank ≡ param_frame (get_or ps i z)
getD_params [] r i z h = absurd (not-suc-le-zero h)
getD_params (p ∷ ps) r zero z h = refl
getD_params (p ∷ ps) r (suc i) z h = getD_params ps r i z (le_of_suc-le-suc h)

module _ (fs : List Frame) where
  pub head_name : OfTree fs (λ d. d.name) (head fs).name
  unfolding written
  head_name d e = ap (λ (x : List Frame). (head x).name) (sym e)

  pub head_type : (d : Definition) → written d ≡ fs → (head fs).t ≡ type_code d.returns
  unfolding written
  head_type d e = ap (λ (x : List Frame). (head x).t) (sym e)

  pub head_params : OfTree fs (λ d. length d.params) (head fs).load
  unfolding written
  head_params d e = ap (λ (x : List Frame). (head x).load) (sym e)

  -- the frames suffice for HEAD, the parameters and END
  pub params_within : (d : Definition) → written d ≡ fs → (head fs).load + 2 ≤ length fs
  params_within d e = let k = length_written d in let n = head_params d e in let q : length (written d) ≡ length fs = ap length e in omega arith

  pub param_there : (i : ℕ) → i < (head fs).load → (d : Definition) → written d ≡ fs → (p : Parameter) × (get_or fs (i + 1) blank ≡ param_frame p) × (Some p ≡ slice_get d.params i)
  unfolding written
  param_there i h d e =
      let n = head_params d e in
      let z : Parameter = record { t = Void; name = 0 } in
      let k : i < length d.params = omega arith in
      let w : get_or fs (suc i) blank ≡ param_frame (get_or d.params i z) =
      ap (λ (x : List Frame). get_or x (suc i) blank) (sym e) ∙ getD_params d.params (write_stmts d.body (END ∷ [])) i z k in
      (get_or d.params i z, ap (λ j. get_or fs j blank) (add-one i) ∙ w, sym (slice_get-get_or d.params i z k))

  pub param_past : (i : ℕ) → (head fs).load ≤ i → OfTree fs (λ d. slice_get d.params i) None
  param_past i h d e = let n = head_params d e in sym (slice_get_past d.params i (omega arith))

  -- a parameter by its frame is the tree's
  pub param_tree : (i : ℕ) (p : Parameter) → ParamAt fs i (Some p) → OfTree fs (λ d. slice_get d.params i) (Some p)
  param_tree i p h d e =
      let q = param_there i h.0 d e in
      let f : param_frame p ≡ param_frame q.0 = sym h.1 ∙ q.1 in
      let t : p.t ≡ q.0.t = type_code_once p.t q.0.t (ap (λ (x : Frame). x.t) f) in
      let n : p.name ≡ q.0.name = ap (λ (x : Frame). x.name) f in
      let s : p ≡ q.0 = λ i. record { t = t i; name = n i } in
      ap Some s ∙ q.2

  module _ (ok : is_sheet fs ≡ true) where
    pub two_frames : 2 ≤ length fs
    two_frames = let t = sheet_tree fs ok in let k = params_within t.0 t.1.writes in omega arith

    pub few_params : (head fs).load ≤ 16
    few_params =
        let t = sheet_tree fs ok in
        let k = t.1.within.params in
        let e = head_params t.0 t.1.writes in
        omega arith

    pub params_end : (head fs).load + 2 ≤ length fs
    params_end = let t = sheet_tree fs ok in params_within t.0 t.1.writes

    pub returns_coded : (t : Ty) × (type_code t ≡ (head fs).t)
    returns_coded = let t = sheet_tree fs ok in (t.0.returns, sym (head_type t.0 t.1.writes))

    pub param_coded : (i : ℕ) → i < (head fs).load → (p : Parameter) × (get_or fs (i + 1) blank ≡ param_frame p)
    param_coded i h = let t = sheet_tree fs ok in let q = param_there i h t.0 t.1.writes in (q.0, q.1)
