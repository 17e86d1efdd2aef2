-- The links of entries when one more is declared and when the newest goes.
use Rattle.std.proofs.Common.{◌≡◌, ℕ, ◌+◌, ◌<◌, ◌≤◌, Bool, List, length, get_or, Some, None, Ok, Option, set, sym, ap, ◌∙◌, subst, arith}
use Rattle.std.proofs.lemmas.List.{map-set, length-map, length-set, get_or-map}
use Rattle.levels.specs.declared.entry.Entry.{Entry}
use Rattle.levels.specs.Entries.{names, nexts}
use Rattle.levels.specs.Linked.{bucket, Threaded, Headed}
use Rattle.levels.specs.Refusals.{no_place, answer_with}
use Rattle.levels.specs.Layout.{Layout, grown}
use Rattle.levels.proofs.Refusing.{answer_given, answer_is}
use Rattle.levels.proofs.Declaring.{place_low}
use Rattle.levels.proofs.Linking.{threaded_more, threaded_less, headed_more, headed_less}

-- what chains keep to: as many entries stand as there are at most, and links and heads lead where they should
pub record Linked {V : Type 0} (es : List (Entry V)) (heads : List (Option ℕ)) (n : ℕ) : Type 0 where
  pub within : n ≤ length es
  pub threaded : Threaded (names es) (nexts es) n
  pub headed : Headed (names es) heads n

module _ {V : Type 0} (es : List (Entry V)) (heads : List (Option ℕ)) (n : ℕ) where
  pub linked_same : (m : ℕ) → m ≡ n → Linked es heads n → Linked es heads m
  linked_same m e l = let P : ℕ → Type 0 = Linked es heads in subst P (sym e) l

  -- an entry more: it stands at the next place, links to the old head of its bucket, and is its new head
  pub linked_more : (heads' : List (Option ℕ)) (p m : ℕ) (x : Entry V) → length heads ≡ 64 → p ≡ n → n < length es → m ≡ n + 1
      → x.next ≡ get_or heads (bucket x.name) None → heads' ≡ set heads (bucket x.name) (Some p) → Linked es heads n → Linked (set es p x) heads' m
  linked_more heads' p m x size e low q link h l =
      let P : ℕ → List (Option ℕ) → ℕ → Type 0 = λ p hs m. Linked (set es p x) hs m in
      let w : n < length (names es) = simp length-map low in
      let w2 : n < length (nexts es) = simp length-map low in
      let t = threaded_more (names es) (nexts es) heads n x.name x.next w w2 l.threaded (link ∙ l.headed (bucket x.name) (omega arith)) in
      let d = headed_more (names es) (nexts es) heads n x.name w size (omega arith) l.headed in
      let s = length-set es n x in
      let N : List ℕ → List (Option ℕ) → ℕ → Type 0 = Threaded in
      let H : List ℕ → List (Option ℕ) → ℕ → Type 0 = Headed in
      subst (λ m. P p heads' m) (sym q)
      (subst (λ hs. P p hs (n + 1)) (sym h)
      (subst (λ p. P p (set heads (bucket x.name) (Some p)) (n + 1)) (sym e) (record {
        within = omega arith;
        threaded = subst (λ ys. N ys (nexts (set es n x)) (n + 1)) (sym (map-set (λ e. e.name) es n x))
            (subst (λ ys. N (set (names es) n x.name) ys (n + 1)) (sym (map-set (λ e. e.next) es n x)) t);
        headed = subst (λ ys. H ys (set heads (bucket x.name) (Some n)) (n + 1)) (sym (map-set (λ e. e.name) es n x)) d;
      })))

  -- an entry less: its link is the new head of its bucket
  pub linked_less : (heads' : List (Option ℕ)) (m at : ℕ) (d : Entry V) → length heads ≡ 64 → n ≡ m + 1 → at ≡ m
      → heads' ≡ set heads (bucket (get_or es at d).name) (get_or es at d).next → Linked es heads n → Linked es heads' m
  linked_less heads' m at d size q e h l =
      let low : n ≤ length es = l.within in
      let H : List (Option ℕ) → ℕ → Type 0 = Headed (names es) in
      let nm : (get_or es at d).name ≡ get_or (names es) m 0 = ap (λ i. (get_or es i d).name) e ∙ sym (get_or-map (λ e. e.name) es m d 0 (omega arith)) in
      let nx : (get_or es at d).next ≡ get_or (nexts es) m None = ap (λ i. (get_or es i d).next) e ∙ sym (get_or-map (λ e. e.next) es m d None (omega arith)) in
      record {
        within = omega arith;
        threaded = threaded_less (names es) (nexts es) n m (omega arith) l.threaded;
        headed = subst (λ hs. H hs m) (sym h)
            (headed_less (names es) (nexts es) heads m (get_or es at d).name (get_or es at d).next nm nx size (omega arith) (l.threaded m (omega arith)) (subst (H heads) q l.headed));
      }

-- an entry that is declared, as the level table and the buckets tell it: at the place that the table gives, linked to the old head of its bucket
pub declared_linked : {V : Type 0} (y y' : Layout) (es : List (Entry V)) (b : Bool) (c p : ℕ) (heads heads' : List (Option ℕ)) (x : Entry V)
    → Ok p ≡ answer_with (no_place y.starts b y.count c) y.count → c ≡ length es → y' ≡ grown y → length heads ≡ 64
    → x.next ≡ get_or heads (bucket x.name) None → heads' ≡ set heads (bucket x.name) (Some p) → Linked es heads y.count → Linked (set es p x) heads' y'.count
declared_linked y y' es b c p heads heads' x at size more room link head l =
    let w = place_low b y.count c y.starts (answer_given y.count (no_place y.starts b y.count c) p at) in
    let e = answer_is y.count (no_place y.starts b y.count c) p at in
    linked_more es heads y.count heads' p y'.count x room e (omega arith) (ap (λ y. y.count) more) link head l
