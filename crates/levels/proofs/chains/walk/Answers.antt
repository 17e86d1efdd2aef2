use Rattle.std.proofs.Common.{◌≡◌, ℕ, ◌<◌, take, get_or, Some, None, Option, sym, ap, ◌∙◌, subst, arith}
use Rattle.std.proofs.lemmas.List.{get_or-map, length-map, length-take, take-map, get_or-take}
use Rattle.levels.specs.Search.{newest_of}
use Rattle.levels.specs.Entries.{names, nexts}
use Rattle.levels.proofs.Searching.{names_is}
use Rattle.levels.proofs.Linking.{up_to}
use Rattle.levels.proofs.Walking.{Walked, walked_part, walked_head, walked_next, next_low}
use Rattle.levels.proofs.chains.walk.Goals as goal

pub loop-next-init : goal.loop-next-init
loop-next-init g c = walked_head (names c.args.entries.now) c.args.count c.args.name c.args.head c.requires.headed

pub returns-then-entries-i : goal.returns-then-entries-i
returns-then-entries-i g c =
    let es = c.args.entries.now in
    let n = c.args.count in
    let i = c.in-Some.i in
    let P : Option ℕ → Type 0 = Walked (names es) n c.args.name in
    let w = subst P c.in-Some.is c.loop-next.invariant in
    let h : i < n = w.within in
    let v = c.requires.within in
    let size = length-map es (λ e. e.name) in
    let s = length-take n (names es) in
    let at : get_or (take n (names es)) i 0 ≡ c.args.name =
    get_or-take n (names es) i 0 h ∙ get_or-map (λ e. e.name) es i c.index-entries-i.result 0 (omega arith) ∙ c.if-entries-i.true in
    record {
      result = names_is (take n (names es)) c.args.name (Some i) (omega arith, at, walked_part (names es) n c.args.name (Some i) w)
          ∙ ap (λ xs. newest_of xs c.args.name) (take-map (λ e. e.name) n es);
    }

pub loop-next-smaller : goal.loop-next-smaller
loop-next-smaller g c =
    let es = c.args.entries.now in
    let P : Option ℕ → Type 0 = Walked (names es) c.args.count c.args.name in
    let w = subst P c.in-Some.is c.loop-next.invariant in
    let v = c.requires.within in
    let d = c.index-entries-i-in-Some.result in
    let nx = sym (get_or-map (λ e. e.next) es c.in-Some.i d None (omega (arith, w.within))) in
    let low = next_low (names es) c.args.count c.args.name (nexts es) c.in-Some.i _ w.within c.requires.threaded nx in
    let here = ap up_to c.in-Some.is in
    omega arith

pub loop-next-preserved : goal.loop-next-preserved
loop-next-preserved g c =
    let es = c.args.entries.now in
    let i = c.in-Some.i in
    let P : Option ℕ → Type 0 = Walked (names es) c.args.count c.args.name in
    let w = subst P c.in-Some.is c.loop-next.invariant in
    let v = c.requires.within in
    let nx = sym (get_or-map (λ e. e.next) es i c.index-entries-i-in-Some.result None (omega (arith, w.within))) in
    let nm = get_or-map (λ e. e.name) es i c.index-entries-i.result 0 (omega (arith, w.within)) in
    walked_next (names es) c.args.count c.args.name (nexts es) i _ c.requires.threaded w (λ e. c.if-entries-i.false (sym nm ∙ e)) nx

pub returns : goal.returns
returns g c =
    let es = c.args.entries.now in
    let n = c.args.count in
    let P : Option ℕ → Type 0 = Walked (names es) n c.args.name in
    record {
      result = names_is (take n (names es)) c.args.name None (walked_part (names es) n c.args.name None (subst P c.in_default.is c.loop-next.invariant))
          ∙ ap (λ xs. newest_of xs c.args.name) (take-map (λ e. e.name) n es);
    }
