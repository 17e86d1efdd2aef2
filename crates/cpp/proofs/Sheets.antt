-- A sheet is its frames, and form gives it back from them.
use Rattle.std.proofs.Common.{◌≡◌, ◌≤◌, Bool, true, false, T, List, length, Ok, Err, sym, refl, ap, ◌∙◌, subst}
use lib.Dec.{T_prop}
use Rattle.syntax.specs.declared.frame.Frame.{Frame}
use Rattle.syntax.specs.Trees.{Definition}
use Rattle.syntax.specs.Writing.{written}
use Rattle.syntax.specs.Limits.{Within}
use Rattle.syntax.specs.Form.{fine, refused, Verdict, accepted, forms, is_fine, is_sheet}
use Rattle.rules.proofs.Decided.{sheet_definition}
use Rattle.history.specs.Language.{Fault}
use Rattle.cpp.specs.Sheet.{Sheet, formed_by, form}
use Rattle.cpp.specs.Forming.{FormsTied}

-- a test that holds
true_from : (b : Bool) → T b → b ≡ true
true_from true h = refl
true_from false h = absurd h

-- a sheet's frames have the form of one
pub has_form : (s : Sheet) → is_sheet s.frames ≡ true
has_form s = true_from (is_sheet s.frames) s.formed

-- so they are the writing of a definition within the limits
pub definition_of : (s : Sheet) → (d : Definition) × Within d × (written d ≡ s.frames)
definition_of s = sheet_definition s.frames (has_form s)

-- and at most 256
pub at_most_256 : (s : Sheet) → length s.frames ≤ 256
at_most_256 s = let w = definition_of s in subst (λ (fs : List Frame). length fs ≤ 256) w.2 w.1.frames

-- the sheet of frames that have the form of one
sheet_on : (fs : List Frame) → T (is_sheet fs) → Sheet
sheet_on fs w = record { frames = fs; formed = w }

-- whatever the proof of it
formed_again : (fs : List Frame) (w : T (is_sheet fs)) (v : Verdict) (e : forms fs ≡ v) → formed_by fs v e ≡ Ok (sheet_on fs w)
unfolding sheet_on
formed_again fs w (fine u) e = ap (λ q. Ok (sheet_on fs q)) (T_prop (is_sheet fs) _ w)
formed_again fs w (refused n p) e = absurd (subst (λ v. T (is_fine v)) e w)

-- form gives a sheet back from its frames
pub form_again : (s : Sheet) → form s.frames ≡ Ok s
unfolding form sheet_on
form_again s = formed_again s.frames s.formed (forms s.frames) refl

-- so a sheet is its frames
pub sheets_same : (s t : Sheet) → s.frames ≡ t.frames → s ≡ t
sheets_same s t e = cc (form_again s, form_again t)

-- ## form and its verdict

-- a sheet answered is of accepted frames
formed_accepted : (fs : List Frame) (v : Verdict) (e : forms fs ≡ v) (s : Sheet) → formed_by fs v e ≡ Ok s → (v ≡ accepted) × (s.frames ≡ fs)
formed_accepted fs (fine u) e s h = (refl, cc)
formed_accepted fs (refused n p) e s h = cc

-- the verdict is a refusal with these numbers
abbrev RefusesAs : Verdict → Fault → Type 0
RefusesAs v f = (v ≡ refused f.number f.place) × (f.layer ≡ 2) × (f.sheet ≡ 255)

-- a fault answered is the refusal
formed_refused : (fs : List Frame) (v : Verdict) (e : forms fs ≡ v) (f : Fault) → formed_by fs v e ≡ Err f → RefusesAs v f
formed_refused fs (fine u) e f h = cc
formed_refused fs (refused n p) e f h =
    let i : record { number = n; layer = 2; sheet = 255; place = p } ≡ f = cc in
    subst (RefusesAs (refused n p)) i (refl, refl, refl)

-- and the other way round
refused_formed : (fs : List Frame) (v : Verdict) (e : forms fs ≡ v) (f : Fault) → RefusesAs v f → formed_by fs v e ≡ Err f
refused_formed fs (fine u) e f h = cc h.0
refused_formed fs (refused n p) e f h =
    let i : n ≡ f.number = cc h.0 in
    let j : p ≡ f.place = cc h.0 in
    λ k. Err (record { number = i k; layer = sym h.1 k; sheet = sym h.2 k; place = j k })

-- of all frames
pub forms_tied : FormsTied
unfolding form
forms_tied =
    record {
      told = λ fs. record {
        formed = λ s. (formed_accepted fs (forms fs) refl s, (λ h. ap form (sym h.1) ∙ form_again s));
        unformed = λ f. (formed_refused fs (forms fs) refl f, refused_formed fs (forms fs) refl f);
      };
      same = sheets_same;
    }
