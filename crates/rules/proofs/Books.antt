-- A book is valid exactly where its names and parameters are apart and every sheet's walk ends without a fault.
use Rattle.std.proofs.Common.{◌≡◌, List, [], ◌∷◌, map, length, take, sym, refl, ap, ◌∙◌, subst, ap₂}
use Rattle.syntax.specs.declared.frame.Parameter.{Parameter}
use Rattle.syntax.specs.Trees.{Definition}
use Rattle.syntax.specs.Writing.{Token, END, frame_of, write_params, write_stmts, written}
use Rattle.syntax.specs.Types.{param_of}
use Rattle.levels.specs.Store.{find}
use Rattle.rules.specs.Heads.{Head, head, Signature, Table}
use Rattle.rules.specs.Programs.{Program, param_types, head_of, Generates, none_generates, more_generates, Consistent, none_consistent, more_consistent, Valid, program_valid}
use Rattle.rules.specs.Walk.{walk_sheet}
use Rattle.rules.specs.Books.{sheet_name, sheet_params, sheet_head, Book, book_heads, AllSheets, Writes, ValidBook, NamesApart, ParamsApart, AllWalked, BookDecides, HeadsOnce}
use Rattle.rules.proofs.Results.{type_back}
use Rattle.rules.proofs.Decoded.{returned_written}
use Rattle.rules.proofs.Decided.{walk_derived, derived_walk, sheet_definition}

-- ===== what the first frames of a definition say =====
params_read : (ps : List Parameter) (ms : List Token) → map param_of (take (length ps) (map frame_of (write_params ps ms))) ≡ ps
params_read [] ms = refl
params_read (p ∷ ps) ms = ap₂ (λ x xs. x ∷ xs) (ap (λ t. record { t = t; name = p.name }) (type_back p.t)) (params_read ps ms)

pub params_written : (d : Definition) → sheet_params (written d) ≡ d.params
unfolding written
params_written d = params_read d.params (write_stmts d.body (END ∷ []))

pub name_written : (d : Definition) → sheet_name (written d) ≡ d.name
unfolding written
name_written d = refl

pub head_written : (d : Definition) → sheet_head (written d) ≡ head_of d
head_written d = ap₂ (λ ps r. head (param_types ps) r) (params_written d) (returned_written d)

-- ===== the heads of a program =====
abbrev program_heads : Program → Table Head
program_heads [] = []
program_heads (d ∷ p) = (d.name, head_of d) ∷ program_heads p

heads_generated : {p : Program} {H : Table Head} → Generates p H → H ≡ program_heads p
heads_generated none_generates = refl
heads_generated (more_generates {d = d} g h k) = ap (λ H. (d.name, head_of d) ∷ H) (heads_generated g)

pub heads_once : HeadsOnce
heads_once p H H' g g' = heads_generated g ∙ sym (heads_generated g')

heads_written : (b : Book) (p : Program) → Writes b p → book_heads b ≡ program_heads p
heads_written [] [] w = refl
heads_written [] (d ∷ p) w = absurd w
heads_written (fs ∷ b) [] w = absurd w
heads_written (fs ∷ b) (d ∷ p) w =
    let e = w.0 in
    let n : sheet_name fs ≡ d.name = ap sheet_name (sym e) ∙ name_written d in
    let k : sheet_head fs ≡ head_of d = ap sheet_head (sym e) ∙ head_written d in
    let ih = heads_written b p w.1 in
    λ i. (n i, k i) ∷ ih i

-- ===== from the rules to the walks =====
names_generated : {p : Program} {H : Table Head} → Generates p H → NamesApart H
names_generated none_generates = tt
names_generated (more_generates g h k) = (h, names_generated g)

params_generated : (b : Book) (p : Program) (H : Table Head) → Writes b p → Generates p H → ParamsApart b
params_generated [] [] H w none_generates = tt
params_generated [] (d ∷ p) H w g = absurd w
params_generated (fs ∷ b) [] H w g = absurd w
params_generated (fs ∷ b) (d ∷ p) H w (more_generates {H = J} g h k) =
    (rw (← w.0, params_written d) k, params_generated b p J w.1 g)

walked_consistent : (S : Signature) (b : Book) (p : Program) → Writes b p → Consistent S p → AllWalked S b
walked_consistent S [] [] w none_consistent = tt
walked_consistent S [] (d ∷ p) w c = absurd w
walked_consistent S (fs ∷ b) [] w c = absurd w
walked_consistent S (fs ∷ b) (d ∷ p) w (more_consistent c D) =
    ((_, _, ap (walk_sheet S) (sym w.0) ∙ walk_derived S d D), walked_consistent S b p w.1 c)

book_valid : (b : Book) → ValidBook b → NamesApart (book_heads b) × ParamsApart b × AllWalked (find (book_heads b)) b
book_valid b q = go q.0 q.1 q.2
  where
    go : (p : Program) → Writes b p → Valid p → NamesApart (book_heads b) × ParamsApart b × AllWalked (find (book_heads b)) b
    go p w (program_valid {H = H} g c) =
        let e : H ≡ book_heads b = heads_generated g ∙ sym (heads_written b p w) in
        (subst NamesApart e (names_generated g), params_generated b p H w g, walked_consistent (find (book_heads b)) b p w (subst (λ (J : Table Head). Consistent (find J) p) e c))

-- ===== from the walks to the rules =====
definitions : (b : Book) → AllSheets b → (p : Program) × Writes b p
definitions [] h = ([], tt)
definitions (fs ∷ b) h =
    let d = sheet_definition fs h.0 in
    let r = definitions b h.1 in
    (d.0 ∷ r.0, (d.2, r.1))

generates : (b : Book) (p : Program) → Writes b p → NamesApart (program_heads p) → ParamsApart b → Generates p (program_heads p)
generates [] [] w n k = none_generates
generates [] (d ∷ p) w n k = absurd w
generates (fs ∷ b) [] w n k = absurd w
generates (fs ∷ b) (d ∷ p) w n k =
    more_generates (generates b p w.1 n.1 k.1) n.0 (rw (← w.0, params_written d) at k.0)

consistent_walked : (S : Signature) (b : Book) (p : Program) → Writes b p → AllWalked S b → Consistent S p
consistent_walked S [] [] w a = none_consistent
consistent_walked S [] (d ∷ p) w a = absurd w
consistent_walked S (fs ∷ b) [] w a = absurd w
consistent_walked S (fs ∷ b) (d ∷ p) w a =
    more_consistent (consistent_walked S b p w.1 a.1) (derived_walk S d a.0.0 a.0.1 (ap (walk_sheet S) w.0 ∙ a.0.2)).0

pub book_decides : BookDecides
book_decides b h =
    let q = definitions b h in
    let e : book_heads b ≡ program_heads q.0 = heads_written b q.0 q.1 in (
      book_valid b,
      (λ k. (
        q.0,
        q.1,
        program_valid (generates b q.0 q.1 (subst NamesApart e k.0) k.1) (subst (λ (J : Table Head). Consistent (find J) q.0) e (consistent_walked (find (book_heads b)) b q.0 q.1 k.2)),
      )),
    )
