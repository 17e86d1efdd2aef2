use Rattle.std.proofs.Common.{Some, rules}
use Rattle.levels.proofs.Searching.{newest_told, names_is, law_from}
use Rattle.levels.proofs.search.newest.Goals as goal

pub returns-clause-law : goal.returns-clause-law
returns-clause-law g c =
    law_from g.T.Named.label c.args.items.now c.args.name _
    (newest_told (λ a. Some (g.T.Named.label a)) c.args.items.now c.args.name _
    (λ i e. search rules) (λ i d e. search rules) (λ i j d e h l. search rules) (λ j d e l. search rules))

pub returns-clause-result : goal.returns-clause-result
returns-clause-result g c = names_is _ c.args.name _ (returns-clause-law g c)
