use Rattle.std.proofs.Common.{◌≡◌, ◌∙◌, arith, rules, tests}
use Rattle.std.specs.Prelude.{position, length}
use Rattle.std.proofs.lemmas.Grind.{common_steps}
use Rattle.std.proofs.lemmas.Iterator.{YieldsList-from_slice}
use Rattle.std.proofs.lemmas.Iterator.Search.{position_from_yields_List}
use Rattle.words.specs.Pairs.{same_pair}
use Rattle.code.specs.Letters.{held}
use Rattle.code.proofs.Lettering.{place_position}
use Rattle.code.proofs.letters.place_of.Goals as goal

pub returns : goal.returns
returns c =
    let front : c.iter.result.rest.now ≡ held c.args.letters = grind (arith, common_steps) in
    let found : c.position.result ≡ position (λ q. same_pair q c.args.p) (held c.args.letters) =
    position_from_yields_List (λ q. same_pair q c.args.p) _ _ c.position.result c.position.ensures.ran (YieldsList-from_slice _ front) (λ x b q k. search (rules, tests)) in
    let n : c.min-count.result ≡ length (held c.args.letters) = grind (arith, common_steps) in
    rw found at c.unwrap_or.ensures ∙ place_position c.args.p (held c.args.letters) c.min-count.result n
