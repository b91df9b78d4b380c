use Rattle.std.proofs.Common.{rules, ◌≡◌, ltb, position}
use Rattle.connector.specs.declared.Completion.{Completion}
use Rattle.std.proofs.lemmas.Iterator.{YieldsList-from_slice}
use Rattle.std.proofs.lemmas.Iterator.Search.{position_from_yields_List}
use Rattle.hub.proofs.completions.place_in.Goals as goal

pub returns : goal.returns
returns c =
    let found : c.position.result ≡ position (λ (y : Completion). ltb c.args.x.moment.0 y.moment.0) c.args.items.now =
    position_from_yields_List (λ (y : Completion). ltb c.args.x.moment.0 y.moment.0) _ _ c.position.result c.position.ensures.ran (YieldsList-from_slice c.args.items.now (search rules)) (λ x b q k. search rules) in
    rw (c.unwrap_or.ensures, found)
