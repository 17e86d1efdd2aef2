-- A walk along a chain, over lists of names and links.
use Rattle.std.proofs.Common.{◌≡◌, ℕ, suc, ◌<◌, ◌≤◌, List, get_or, take, Some, None, Option, sym, refl, ap, ◌∙◌, ⊎_elim, arith}
use Rattle.std.proofs.lemmas.Bool.{cases_eq, cases_lt}
use Rattle.std.proofs.lemmas.List.{get_or-take, length-take}
use Rattle.levels.specs.Search.{Clear}
use Rattle.levels.specs.Linked.{bucket, last_in, Threaded}
use Rattle.levels.proofs.Linking.{up_to, last_none, last_bucket, last_le}

-- of the first n places none past this one has the name, and this one, if there is one, is in its bucket
pub record Walked (xs : List ℕ) (n k : ℕ) (o : Option ℕ) : Type 0 where
  pub within : up_to o ≤ n
  pub clear : (j : ℕ) → up_to o ≤ j → j < n → get_or xs j 0 ≡ k → ⊥
  pub same : (i : ℕ) → Some i ≡ o → bucket (get_or xs i 0) ≡ bucket k

module _ (xs : List ℕ) (n k : ℕ) where
  pub walked_part : (o : Option ℕ) → Walked xs n k o → Clear 0 (take n xs) k (up_to o)
  walked_part o w j h l e =
      let s = length-take n xs in
      let q : j < n = omega arith in
      w.clear j h q (sym (get_or-take n xs j 0 q) ∙ e)

  -- at the head of the chain, and one link on past another name
  pub walked_head : (o : Option ℕ) → o ≡ last_in xs n (bucket k) → Walked xs n k o
  walked_head o e =
      let at = ap up_to e in
      let le = last_le xs (bucket k) n in
      record {
        within = omega arith;
        clear = λ j h l s. last_none xs (bucket k) n j (omega arith) l (ap bucket s);
        same = λ i h. last_bucket xs (bucket k) n i (h ∙ e);
      }

  pub walked_next : (links : List (Option ℕ)) (i : ℕ) (o : Option ℕ) → Threaded xs links n → Walked xs n k (Some i) → (get_or xs i 0 ≡ k → ⊥) → o ≡ get_or links i None → Walked xs n k o
  walked_next links i o th w a e =
      let in_n : suc i ≤ n = w.within in
      let to : o ≡ last_in xs i (bucket k) = e ∙ th i (omega arith) ∙ ap (last_in xs i) (w.same i refl) in
      let at = ap up_to to in
      let le = last_le xs (bucket k) i in
      record {
        within = omega arith;
        clear = λ j q r s.
            ⊎_elim
            (λ (z : j < i). last_none xs (bucket k) i j (omega arith) z (ap bucket s))
            (λ (z : i ≤ j).
            ⊎_elim
            (λ (y : j ≡ i). a (sym (ap (λ t. get_or xs t 0) y) ∙ s))
            (λ (y : j ≡ i → ⊥). w.clear j (omega (arith, y)) r s)
            (cases_eq j i))
            (cases_lt j i);
        same = λ j h. last_bucket xs (bucket k) i j (h ∙ to);
      }

  -- each link leads down
  pub next_low : (links : List (Option ℕ)) (i : ℕ) (o : Option ℕ) → i < n → Threaded xs links n → o ≡ get_or links i None → up_to o ≤ i
  next_low links i o l th e =
      let to = ap up_to (e ∙ th i l) in
      let le = last_le xs (bucket (get_or xs i 0)) i in
      omega arith
