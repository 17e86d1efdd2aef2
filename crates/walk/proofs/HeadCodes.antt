-- The codes of a sheet's parameters are those of its definition, and can be packed.
use Rattle.std.proofs.Common.{◌≡◌, ℕ, ◌+◌, ◌<◌, ◌≤◌, true, ltb, List, [], ◌∷◌, ◌++◌, map, length, get_or, take, is_some, Some, None, Option, sym, refl, ap, ◌∙◌, ap₂, arith}
use Rattle.std.proofs.lemmas.List.{take-map, take_all, take_more, length-take, length-map, get_or-map}
use Rattle.std.proofs.lemmas.Bool.{cond-true}
use Rattle.syntax.specs.declared.frame.Frame.{Frame}
use Rattle.syntax.specs.declared.frame.Parameter.{Parameter}
use Rattle.syntax.specs.Trees.{Definition}
use Rattle.syntax.specs.Writing.{Token, END, write_params, write_stmts, written, frame_of, type_code, blank}
use Rattle.syntax.specs.Heads.{head}
use Rattle.syntax.specs.Form.{is_sheet}
use Rattle.syntax.specs.Law.{OfTree}
use Rattle.syntax.proofs.Heads.{head_type}
use Rattle.heads.specs.Heads.{fits, packed, head_of, bare_head, Pushes}
use Rattle.rules.specs.Programs.{param_types, head_of as definition_head}
use Rattle.rules.proofs.Decided.{sheet_definition}
use Rattle.walk.specs.Params.{param_frames}
use Rattle.walk.specs.Tied.{packed_head}
use Rattle.walk.specs.Examined.{param_codes, sheet_packed}
use Rattle.walk.proofs.CodingRows.{code_low, codes_fit}

params_coded : (ps : List Parameter) (ms : List Token) → map (λ (f : Frame). f.t) (take (length ps) (map frame_of (write_params ps ms))) ≡ map type_code (param_types ps)
params_coded [] ms = refl
params_coded (p ∷ ps) ms = ap (λ l. type_code p.t ∷ l) (params_coded ps ms)

codes_written : (d : Definition) → param_codes (written d) ≡ map type_code (param_types d.params)
unfolding written
codes_written d = params_coded d.params (write_stmts d.body (END ∷ []))

-- the head of the definition that the frames write
pub packed_tree : (fs : List Frame) → OfTree fs (λ d. packed_head (definition_head d)) (sheet_packed fs)
packed_tree fs d e = ap₂ packed (ap param_codes (sym e) ∙ codes_written d) (head_type fs d e)

-- the codes of so many parameters, and of one more
codes_more : (ps : List Frame) (i : ℕ) → i < length ps → take (i + 1) (map (λ (f : Frame). f.t) ps) ≡ take i (map (λ (f : Frame). f.t) ps) ++ (get_or ps i blank).t ∷ []
codes_more ps i l =
    let n = length-map ps (λ (f : Frame). f.t) in
    take_more (map (λ (f : Frame). f.t) ps) i 0 (omega arith)
    ∙ ap (λ t. take i (map (λ (f : Frame). f.t) ps) ++ t ∷ []) (get_or-map (λ (f : Frame). f.t) ps i blank 0 l)

module _ (fs : List Frame) (h : is_sheet fs ≡ true) where
  front_fits : (i : ℕ) → fits (take i (param_codes fs)) (head fs).t ≡ true
  front_fits i =
      let w = sheet_definition fs h in
      let d = w.0 in
      let ts = param_types d.params in
      let few : length d.params ≤ 16 = w.1.params in
      let l = length-take i ts in
      let m = length-map d.params (λ (p : Parameter). p.t) in
      ap₂ fits (ap (take i) (ap param_codes (sym w.2) ∙ codes_written d) ∙ take-map type_code i ts) (head_type fs d w.2)
      ∙ codes_fit (take i ts) d.returns (omega arith)

  head_there : (i : ℕ) → head_of (take i (param_codes fs)) (head fs).t ≡ Some (packed (take i (param_codes fs)) (head fs).t)
  head_there i = cond-true (fits (take i (param_codes fs)) (head fs).t) (Some (packed (take i (param_codes fs)) (head fs).t)) None (front_fits i)

  pub bare_there : (o : Option ℕ) → o ≡ bare_head (head fs).t → is_some o ≡ true
  bare_there o e =
      let w = sheet_definition fs h in
      ap is_some (e ∙ ap bare_head (head_type fs w.0 w.2) ∙ cond-true (ltb (type_code w.0.returns) 8) (Some (type_code w.0.returns)) None (code_low w.0.returns))

  -- one parameter more
  pub pushed_more : (i p : ℕ) (o : Option ℕ) → i < length (param_frames fs) → head_of (take i (param_codes fs)) (head fs).t ≡ Some p → Pushes p (get_or (param_frames fs) i blank).t o
      → o ≡ head_of (take (i + 1) (param_codes fs)) (head fs).t
  pushed_more i p o l inv law = law (take i (param_codes fs)) (head fs).t inv ∙ ap (λ cs. head_of cs (head fs).t) (sym (codes_more (param_frames fs) i l))

  pub pushed_there : (i p : ℕ) (o : Option ℕ) → i < length (param_frames fs) → head_of (take i (param_codes fs)) (head fs).t ≡ Some p → Pushes p (get_or (param_frames fs) i blank).t o → is_some o ≡ true
  pushed_there i p o l inv law = ap is_some (pushed_more i p o l inv law ∙ head_there (i + 1))

  pub packed_all : (i p : ℕ) → length (param_frames fs) ≤ i → head_of (take i (param_codes fs)) (head fs).t ≡ Some p → p ≡ sheet_packed fs
  packed_all i p l inv =
      let m = length-map (param_frames fs) (λ (f : Frame). f.t) in
      let e : ◌≡◌ {A = Option ℕ} (Some (packed (take i (param_codes fs)) (head fs).t)) (Some p) = sym (head_there i) ∙ inv in
      let k : packed (take i (param_codes fs)) (head fs).t ≡ p = cc in
      sym k ∙ ap (λ cs. packed cs (head fs).t) (take_all i (param_codes fs) (omega arith))
