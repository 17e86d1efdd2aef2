-- What stands in front of a formed sheet's array is what its frames tell.
use Rattle.std.proofs.Common.{◌≡◌, ℕ, ◌+◌, ◌<◌, ◌≤◌, length, get_or, Some, Ok, Result, sym, ap, ◌∙◌, subst, arith}
use Rattle.std.proofs.lemmas.List.{get_or-take, length-take-le}
use Rattle.syntax.specs.declared.frame.Frame.{Frame}
use Rattle.std.specs.List.{slice_get}
use Rattle.std.specs.Result.{IsOk}
use Rattle.syntax.specs.declared.frame.«Type».{«Type» as Ty}
use Rattle.syntax.specs.declared.frame.UnknownType.{UnknownType}
use Rattle.syntax.specs.Writing.{type_code, blank}
use Rattle.syntax.specs.Types.{Decodes}
use Rattle.syntax.specs.Law.{OfTree}
use Rattle.frames.specs.declared.formed.Formed.{Formed}
use Rattle.frames.specs.Sheets.{frames_of}
use Rattle.syntax.specs.Heads.{head, param_frame, ParamAt}
use Rattle.syntax.proofs.Types.{type_code_once, decodes_some, decodes_type}
use Rattle.syntax.proofs.Heads.{head_name, head_type, head_params, two_frames, few_params, params_end, returns_coded, param_coded, param_tree}

module _ (s : Formed) where
  length_front : s.count ≡ length (frames_of s)
  length_front = let l = s.full in let h = s.within in sym (length-take-le s.count s.frames (omega arith))

  -- how many frames there are
  pub count_bound : (2 ≤ length (frames_of s)) × (length (frames_of s) ≤ 256)
  count_bound = let h = s.within in let n = length_front in (two_frames (frames_of s) s.formed, omega arith)

  pub head_there : get_or s.frames 0 blank ≡ head (frames_of s)
  head_there = let k = count_bound in let n = length_front in sym (get_or-take s.count s.frames 0 blank (omega arith))

  pub name_tree : OfTree (frames_of s) (λ d. d.name) (get_or s.frames 0 blank).name
  name_tree d e = ap (λ (f : Frame). f.name) head_there ∙ head_name (frames_of s) d e

  pub count_tree : OfTree (frames_of s) (λ d. length d.params) (get_or s.frames 0 blank).load
  count_tree d e = ap (λ (f : Frame). f.load) head_there ∙ head_params (frames_of s) d e

  pub count_few : (get_or s.frames 0 blank).load ≤ 16
  count_few = subst (λ (f : Frame). f.load ≤ 16) (sym head_there) (few_params (frames_of s) s.formed)

  -- the type that has the number of HEAD's field
  pub returns_front : (t : Ty) → type_code t ≡ (get_or s.frames 0 blank).t → type_code t ≡ (head (frames_of s)).t
  returns_front t c = c ∙ ap (λ (f : Frame). f.t) head_there

  pub returns_tree : (t : Ty) → type_code t ≡ (get_or s.frames 0 blank).t → OfTree (frames_of s) (λ d. d.returns) t
  returns_tree t c d e = type_code_once t d.returns (returns_front t c ∙ head_type (frames_of s) d e)

  -- HEAD's field has the number of a type
  pub returns_some : (r : Result Ty UnknownType) → Decodes (get_or s.frames 0 blank).t r → IsOk r
  returns_some r h = let t = returns_coded (frames_of s) s.formed in decodes_some _ r h t.0 (t.1 ∙ ap (λ (f : Frame). f.t) (sym head_there))

  module _ (i : ℕ) (few : i < (head (frames_of s)).load) where
    pub param_there : get_or s.frames (i + 1) blank ≡ get_or (frames_of s) (i + 1) blank
    param_there =
        let k = params_end (frames_of s) s.formed in
        let n = length_front in
        sym (get_or-take s.count s.frames (i + 1) blank (omega arith))

    -- PARAM's field has the number of a type
    pub param_some : (r : Result Ty UnknownType) → Decodes (get_or s.frames (i + 1) blank).t r → IsOk r
    param_some r h = let p = param_coded (frames_of s) s.formed i few in decodes_some _ r h p.0.t (ap (λ (f : Frame). f.t) (sym (param_there ∙ p.1)))

    pub param_front : (t : Ty) → type_code t ≡ (get_or s.frames (i + 1) blank).t → ParamAt (frames_of s) i (Some (record { t = t; name = (get_or s.frames (i + 1) blank).name }))
    param_front t c =
        let p = param_coded (frames_of s) s.formed i few in
        let f : get_or s.frames (i + 1) blank ≡ param_frame p.0 = param_there ∙ p.1 in
        let g : p.0.t ≡ t = type_code_once p.0.t t (ap (λ (f : Frame). f.t) (sym f) ∙ sym c) in
        let m : p.0.name ≡ (get_or s.frames (i + 1) blank).name = ap (λ (f : Frame). f.name) (sym f) in
        let q : param_frame p.0 ≡ param_frame (record { t = t; name = (get_or s.frames (i + 1) blank).name }) = λ j. param_frame (record { t = g j; name = m j }) in
        (few, p.1 ∙ q)

    -- the parameter that PARAM tells
    pub param_read : (r : Result Ty UnknownType) (t : Ty) → Decodes (get_or s.frames (i + 1) blank).t r → r ≡ Ok t → ParamAt (frames_of s) i (Some (record { t = t; name = (get_or s.frames (i + 1) blank).name }))
    param_read r t h e = param_front t (decodes_type _ r t h e)

    -- it is the tree's
    pub param_read_tree : (r : Result Ty UnknownType) (t : Ty) → Decodes (get_or s.frames (i + 1) blank).t r → r ≡ Ok t →
        OfTree (frames_of s) (λ d. slice_get d.params i) (Some (record { t = t; name = (get_or s.frames (i + 1) blank).name }))
    param_read_tree r t h e = param_tree (frames_of s) i _ (param_read r t h e)
