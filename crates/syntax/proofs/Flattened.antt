-- What was built writes as the tokens that were read.
use Rattle.std.proofs.Common.{◌≡◌, ℕ, zero, suc, ◌+◌, Bool, true, false, ltb, List, [], ◌∷◌, length, sym, refl, ap, ◌∙◌, ap₂, add-zero, add-suc, suc-add, zero-add, Some, None, Option}
use mathlib.Core.List.{reverse_aux}
use Rattle.std.specs.Option.{option_and_then}
use Rattle.std.proofs.Math.ListN.{length-reverse_aux}
use Rattle.syntax.specs.declared.frame.«Type».{«Type» as Ty}
use Rattle.syntax.specs.declared.frame.Parameter.{Parameter}
use Rattle.syntax.specs.Trees.{Expr, call, Exprs, none, more, Stmt, perform, declare, init, return_nothing, return_value, block, while, choose, Stmts, empty, then}
use Rattle.syntax.specs.Writing.{Token, HEAD, PARAM, END, DO, DECL, NAME, INIT, RETV, RET, OPEN, CLOSE, WHILE, IF, LITERAL, VARIABLE, CALL, UPDATE, BINARY, ASSIGN, count, write_expr, write_exprs, write_names, write_stmt, write_stmts, write_params, write_definition}
use Rattle.syntax.proofs.Builder.{when, parameter, Open, open_block, open_loop, open_choice, open_half, Heading, heading, Tree, nothing_yet, taking_params, building, taking_names, done, if_nothing, if_params, if_building, if_names, if_none, if_one, add, enter, naming, takes, stmts, closes, ends, if_two, if_top, build, builds}

abbrev pub flat_exprs : List Expr → List Token → List Token
flat_exprs [] r = r
flat_exprs (e ∷ es) r = flat_exprs es (write_expr e r)

abbrev pub flat_stmts : List Stmt → List Token → List Token
flat_stmts [] r = r
flat_stmts (s ∷ d) r = flat_stmts d (write_stmt s r)

abbrev pub flat_params : List Parameter → List Token → List Token
flat_params [] r = r
flat_params (p ∷ ps) r = flat_params ps (PARAM p.t p.name ∷ r)

abbrev pub flat_names : List ℕ → List Token → List Token
flat_names [] r = r
flat_names (x ∷ xs) r = flat_names xs (NAME x ∷ r)

abbrev pub flat_heading : Heading → List Token → List Token
flat_heading (heading ρ f ps) r = HEAD ρ f (length ps) ∷ write_params ps r

abbrev pub flat_open : Heading → List Open → List Stmt → List Token → List Token
flat_open H [] d r = flat_heading H (flat_stmts d r)
flat_open H (open_block b ∷ cs) d r = flat_open H cs d (OPEN ∷ flat_stmts b r)
flat_open H (open_loop e ∷ cs) d r = flat_open H cs d (write_expr e (WHILE ∷ r))
flat_open H (open_choice e ∷ cs) d r = flat_open H cs d (write_expr e (IF ∷ r))
flat_open H (open_half e s ∷ cs) d r = flat_open H cs d (write_expr e (IF ∷ write_stmt s r))

abbrev pub flat : Tree → List Token → List Token
flat nothing_yet r = r
flat (taking_params ρ f k ps) r = HEAD ρ f (suc k + length ps) ∷ flat_params ps r
flat (building H es cs d) r = flat_open H cs d (flat_exprs es r)
flat (taking_names H cs d t k xs) r = flat_open H cs d (DECL t (suc k + length xs) ∷ flat_names xs r)
flat (done D) r = write_definition D r

flat_add : (H : Heading) (s : Stmt) (cs : List Open) (d : List Stmt) (r : List Token) → flat (add H s cs d) r ≡ flat_open H cs d (write_stmt s r)
flat_add H s [] d r = refl
flat_add H s (open_block b ∷ cs) d r = refl
flat_add H s (open_loop e ∷ cs) d r = flat_add H (while e s) cs d r
flat_add H s (open_choice e ∷ cs) d r = refl
flat_add H s (open_half e s₁ ∷ cs) d r = flat_add H (choose e s₁ s) cs d r

write_stmts_reversed : (d : List Stmt) (ss : Stmts) (r : List Token) → write_stmts (stmts d ss) r ≡ flat_stmts d (write_stmts ss r)
write_stmts_reversed [] ss r = refl
write_stmts_reversed (s ∷ d) ss r = write_stmts_reversed d (then s ss) r

write_params_reversed : (ps qs : List Parameter) (r : List Token) → write_params (reverse_aux ps qs) r ≡ flat_params ps (write_params qs r)
write_params_reversed [] qs r = refl
write_params_reversed (p ∷ ps) qs r = write_params_reversed ps (p ∷ qs) r

write_names_reversed : (xs ys : List ℕ) (r : List Token) → write_names (reverse_aux xs ys) r ≡ flat_names xs (write_names ys r)
write_names_reversed [] ys r = refl
write_names_reversed (x ∷ xs) ys r = write_names_reversed xs (x ∷ ys) r

-- a state that came out, if any, writes as φ says
abbrev pub Keeps : (List Token → List Token) → Option Tree → Type 0
Keeps φ None = Unit {0}
Keeps φ (Some s) = (r : List Token) → flat s r ≡ φ r

flat_enter : (ρ : Ty) (f k : ℕ) (ps : List Parameter) (r : List Token) → flat (enter ρ f k ps) r ≡ HEAD ρ f (k + length ps) ∷ flat_params ps r
flat_enter ρ f zero ps r = ap₂ (λ n q. HEAD ρ f n ∷ q) (length-reverse_aux ps [] ∙ add-zero (length ps) ∙ sym (zero-add (length ps))) (write_params_reversed ps [] r)
flat_enter ρ f (suc k) ps r = refl

flat_naming : (H : Heading) (cs : List Open) (d : List Stmt) (t : Ty) (k : ℕ) (xs : List ℕ) (r : List Token)
    → flat (naming H cs d t k xs) r ≡ flat_open H cs d (DECL t (k + length xs) ∷ flat_names xs r)
flat_naming H cs d t zero xs r =
    flat_add H (declare t (reverse_aux xs [])) cs d r
    ∙ ap (flat_open H cs d) (ap₂ (λ n q. DECL t n ∷ q) (length-reverse_aux xs [] ∙ add-zero (length xs) ∙ sym (zero-add (length xs))) (write_names_reversed xs [] r))
flat_naming H cs d t (suc k) xs r = refl

keeps_started : (f : Token) (s : Tree) (o : Option Tree) → Keeps (λ r. f ∷ r) o → Keeps (λ r. flat s (f ∷ r)) (if_nothing s o)
keeps_started f nothing_yet o h = h
keeps_started f (taking_params ρ g k ps) o h = tt
keeps_started f (building H es cs d) o h = tt
keeps_started f (taking_names H cs d t k xs) o h = tt
keeps_started f (done D) o h = tt

keeps_param : (f : Token) (s : Tree) (g : Ty → ℕ → ℕ → List Parameter → Option Tree)
    → ((ρ : Ty) (h k : ℕ) (ps : List Parameter) → Keeps (λ r. flat (taking_params ρ h k ps) (f ∷ r)) (g ρ h k ps)) → Keeps (λ r. flat s (f ∷ r)) (if_params s g)
keeps_param f nothing_yet g h = tt
keeps_param f (taking_params ρ j k ps) g h = h ρ j k ps
keeps_param f (building H es cs d) g h = tt
keeps_param f (taking_names H cs d t k xs) g h = tt
keeps_param f (done D) g h = tt

keeps_body : (f : Token) (s : Tree) (g : Heading → List Expr → List Open → List Stmt → Option Tree)
    → ((H : Heading) (es : List Expr) (cs : List Open) (d : List Stmt) → Keeps (λ r. flat_open H cs d (flat_exprs es (f ∷ r))) (g H es cs d)) → Keeps (λ r. flat s (f ∷ r)) (if_building s g)
keeps_body f nothing_yet g h = tt
keeps_body f (taking_params ρ j k ps) g h = tt
keeps_body f (building H es cs d) g h = h H es cs d
keeps_body f (taking_names H cs d t k xs) g h = tt
keeps_body f (done D) g h = tt

keeps_name : (f : Token) (s : Tree) (g : Heading → List Open → List Stmt → Ty → ℕ → List ℕ → Option Tree)
    → ((H : Heading) (cs : List Open) (d : List Stmt) (t : Ty) (k : ℕ) (xs : List ℕ) → Keeps (λ r. flat (taking_names H cs d t k xs) (f ∷ r)) (g H cs d t k xs)) → Keeps (λ r. flat s (f ∷ r)) (if_names s g)
keeps_name f nothing_yet g h = tt
keeps_name f (taking_params ρ j k ps) g h = tt
keeps_name f (building H es cs d) g h = tt
keeps_name f (taking_names H cs d t k xs) g h = h H cs d t k xs
keeps_name f (done D) g h = tt

keeps_none : (φ : List Expr → List Token → List Token) (es : List Expr) (o : Option Tree) → Keeps (φ []) o → Keeps (φ es) (if_none es o)
keeps_none φ [] o h = h
keeps_none φ (e ∷ es) o h = tt

keeps_one : (φ : List Expr → List Token → List Token) (es : List Expr) (g : Expr → Option Tree) → ((e : Expr) → Keeps (φ (e ∷ [])) (g e)) → Keeps (φ es) (if_one es g)
keeps_one φ [] g h = tt
keeps_one φ (e ∷ es) g h = keeps_none (λ es. φ (e ∷ es)) es (g e) (h e)

keeps_two : (φ : List Expr → List Token → List Token) (es : List Expr) (g : Expr → Expr → List Expr → Option Tree)
    → ((a b : Expr) (es : List Expr) → Keeps (φ (b ∷ a ∷ es)) (g a b es)) → Keeps (φ es) (if_two es g)
keeps_two φ [] g h = tt
keeps_two φ (b ∷ []) g h = tt
keeps_two φ (b ∷ a ∷ es) g h = h a b es

keeps_last : (φ : List Expr → List Token → List Token) (es : List Expr) (g : Expr → List Expr → Option Tree)
    → ((a : Expr) (es : List Expr) → Keeps (φ (a ∷ es)) (g a es)) → Keeps (φ es) (if_top es g)
keeps_last φ [] g h = tt
keeps_last φ (a ∷ es) g h = h a es

keeps_when : (φ : List Token → List Token) (b : Bool) (o : Option Tree) → Keeps φ o → Keeps φ (when b o)
keeps_when φ true o h = h
keeps_when φ false o h = tt

-- operands taken for a call
keeps_call : (f : ℕ) (H : Heading) (cs : List Open) (d : List Stmt) (n : ℕ) (es : List Expr) (ar : Exprs) (φ : List Token → List Token)
    → ((r : List Token) → φ r ≡ flat_open H cs d (flat_exprs es (write_exprs ar (CALL f (n + count ar) ∷ r))))
    → Keeps φ (option_and_then (λ p. Some (building H (call f p.0 ∷ p.1) cs d)) (takes n es ar))
keeps_call f H cs d zero es ar φ h = λ r. ap (λ n. flat_open H cs d (flat_exprs es (write_exprs ar (CALL f n ∷ r)))) (sym (zero-add (count ar))) ∙ sym (h r)
keeps_call f H cs d (suc n) [] ar φ h = tt
keeps_call f H cs d (suc n) (e ∷ es) ar φ h =
    keeps_call f H cs d n es (more e ar) φ (λ r. h r ∙ ap (λ m. flat_open H cs d (flat_exprs es (write_expr e (write_exprs ar (CALL f m ∷ r))))) (suc-add n (count ar) ∙ sym (add-suc n (count ar))))

keeps_close : (H : Heading) (cs : List Open) (d : List Stmt) → Keeps (λ r. flat_open H cs d (CLOSE ∷ r)) (closes H cs d)
keeps_close H [] d = tt
keeps_close H (open_block b ∷ cs) d = λ r. flat_add H (block (stmts b empty)) cs d r ∙ ap (λ q. flat_open H cs d (OPEN ∷ q)) (write_stmts_reversed b empty (CLOSE ∷ r))
keeps_close H (open_loop e ∷ cs) d = tt
keeps_close H (open_choice e ∷ cs) d = tt
keeps_close H (open_half e s ∷ cs) d = tt

keeps_end : (H : Heading) (cs : List Open) (d : List Stmt) → Keeps (λ r. flat_open H cs d (END ∷ r)) (ends H cs d)
keeps_end (heading ρ f ps) [] d = λ r. ap (λ q. HEAD ρ f (length ps) ∷ write_params ps q) (write_stmts_reversed d empty (END ∷ r))
keeps_end H (c ∷ cs) d = tt

pub keeps : (f : Token) (s : Tree) → Keeps (λ r. flat s (f ∷ r)) (build f s)
keeps (HEAD ρ f n) s = keeps_started (HEAD ρ f n) s _ (λ r. flat_enter ρ f n [] r ∙ ap (λ m. HEAD ρ f m ∷ r) (add-zero n))
keeps (PARAM t x) s = keeps_param (PARAM t x) s _ (λ ρ f k ps r. flat_enter ρ f k (parameter t x ∷ ps) r ∙ ap (λ m. HEAD ρ f m ∷ flat_params ps (PARAM t x ∷ r)) (add-suc k (length ps) ∙ sym (suc-add k (length ps))))
keeps END s = keeps_body END s _ (λ H es cs d. keeps_none (λ es r. flat_open H cs d (flat_exprs es (END ∷ r))) es _ (keeps_end H cs d))
keeps DO s = keeps_body DO s _ (λ H es cs d. keeps_one (λ es r. flat_open H cs d (flat_exprs es (DO ∷ r))) es _ (λ e. flat_add H (perform e) cs d))
keeps (DECL t k) s = keeps_body (DECL t k) s _ (λ H es cs d. keeps_none (λ es r. flat_open H cs d (flat_exprs es (DECL t k ∷ r))) es _ (λ r. flat_naming H cs d t k [] r ∙ ap (λ m. flat_open H cs d (DECL t m ∷ r)) (add-zero k)))
keeps (NAME x) s = keeps_name (NAME x) s _ (λ H cs d t k xs r. flat_naming H cs d t k (x ∷ xs) r ∙ ap (λ m. flat_open H cs d (DECL t m ∷ flat_names xs (NAME x ∷ r))) (add-suc k (length xs) ∙ sym (suc-add k (length xs))))
keeps (INIT t x) s = keeps_body (INIT t x) s _ (λ H es cs d. keeps_one (λ es r. flat_open H cs d (flat_exprs es (INIT t x ∷ r))) es _ (λ e. flat_add H (init t x e) cs d))
keeps RETV s = keeps_body RETV s _ (λ H es cs d. keeps_none (λ es r. flat_open H cs d (flat_exprs es (RETV ∷ r))) es _ (flat_add H return_nothing cs d))
keeps RET s = keeps_body RET s _ (λ H es cs d. keeps_one (λ es r. flat_open H cs d (flat_exprs es (RET ∷ r))) es _ (λ e. flat_add H (return_value e) cs d))
keeps OPEN s = keeps_body OPEN s _ (λ H es cs d. keeps_none (λ es r. flat_open H cs d (flat_exprs es (OPEN ∷ r))) es _ (keeps_when _ (ltb (length cs) 32) _ (λ r. refl)))
keeps CLOSE s = keeps_body CLOSE s _ (λ H es cs d. keeps_none (λ es r. flat_open H cs d (flat_exprs es (CLOSE ∷ r))) es _ (keeps_close H cs d))
keeps WHILE s = keeps_body WHILE s _ (λ H es cs d. keeps_one (λ es r. flat_open H cs d (flat_exprs es (WHILE ∷ r))) es _ (λ e. keeps_when _ (ltb (length cs) 32) _ (λ r. refl)))
keeps IF s = keeps_body IF s _ (λ H es cs d. keeps_one (λ es r. flat_open H cs d (flat_exprs es (IF ∷ r))) es _ (λ e. keeps_when _ (ltb (length cs) 32) _ (λ r. refl)))
keeps (LITERAL l) s = keeps_body (LITERAL l) s _ (λ H es cs d r. refl)
keeps (VARIABLE x) s = keeps_body (VARIABLE x) s _ (λ H es cs d r. refl)
keeps (CALL f n) s = keeps_body (CALL f n) s _ (λ H es cs d. keeps_call f H cs d n es none _ (λ r. ap (λ m. flat_open H cs d (flat_exprs es (CALL f m ∷ r))) (sym (add-zero n))))
keeps (UPDATE i x) s = keeps_body (UPDATE i x) s _ (λ H es cs d r. refl)
keeps (BINARY o) s = keeps_body (BINARY o) s _ (λ H es cs d. keeps_two (λ es r. flat_open H cs d (flat_exprs es (BINARY o ∷ r))) es _ (λ a b es r. refl))
keeps (ASSIGN x) s = keeps_body (ASSIGN x) s _ (λ H es cs d. keeps_last (λ es r. flat_open H cs d (flat_exprs es (ASSIGN x ∷ r))) es _ (λ a es r. refl))

pub built : (fs : List Token) (s s' : Tree) → builds fs s ≡ Some s' → flat s' [] ≡ flat s fs
built [] s s' h = cc
built (f ∷ fs) s s' h = go (build f s) (keeps f s) h (λ q k. built fs q s' k)
  where
    go : (o : Option Tree) → Keeps (λ r. flat s (f ∷ r)) o → option_and_then (builds fs) o ≡ Some s' → ((q : Tree) → builds fs q ≡ Some s' → flat s' [] ≡ flat q fs) → flat s' [] ≡ flat s (f ∷ fs)
    go None k h ih = cc
    go (Some q) k h ih = ih q h ∙ k fs
