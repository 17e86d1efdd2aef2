use Rattle.std.proofs.Common.{◌≡◌, List, [], ◌∷◌, Some, None, slice_get, sym, refl, ap, ◌∙◌}
use Rattle.syntax.specs.declared.stages.Unfinished.{Unfinished}
use Rattle.syntax.specs.declared.stages.Unfinished.TheVariants.{Block, Loop, Choice}
use Rattle.syntax.specs.Form.{finish}
use Rattle.frames.proofs.things.Things.finish.Goals as goal

-- where nothing or a block is innermost, nothing more is finished
stays_none : (u : List Unfinished) → slice_get u 0 ≡ None → u ≡ finish u
stays_none [] e = refl
stays_none (x ∷ u) e = cc

stays_block : (u : List Unfinished) → slice_get u 0 ≡ Some Block → u ≡ finish u
stays_block [] e = cc
stays_block (Block ∷ u) e = refl
stays_block (Loop ∷ u) e = cc
stays_block (Choice n ∷ u) e = cc

pub returns-in-Block : goal.returns-in-Block
returns-in-Block c = stays_block _ (sym c.in-Some.ensures ∙ ap Some c.in-Block.is) ∙ c.loop-thing.invariant

pub returns : goal.returns
returns c = stays_none _ (sym c.in_default.ensures) ∙ c.loop-thing.invariant
