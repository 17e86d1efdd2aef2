use Rattle.std.proofs.Common.{rules}
use Rattle.levels.proofs.Searching.{newest_told, newest_is}
use Rattle.levels.proofs.search.newest_filled.Goals as goal

pub returns-clause-law : goal.returns-clause-law
returns-clause-law g c =
    newest_told g.T.MayBeNamed.label c.args.items.now c.args.name _
    (λ i e. search rules) (λ i d e. search rules) (λ i j d e h l. search rules) (λ j d e l. search rules)

pub returns-clause-result : goal.returns-clause-result
returns-clause-result g c = newest_is _ c.args.name _ (returns-clause-law g c)
