use Prim.Native.Nat.{◌*◌, ◌≤◌}
use mathlib.Core.Path.{◌≡◌, refl, sym, ◌∙◌}
use mathlib.Core.Bool.{Bool, true, false, not, ◌&&◌}
use mathlib.Core.List.{[], ◌∷◌}
use lib.Dec.{eqb}
use Rattle.std.proofs.lemmas.Bool.{not-true, not-false}
use Rattle.laws.specs.Checks.{◌⇒◌, first}
use Rattle.words.specs.declared.Fields.{Fields}
use native.Mathlib.Omega.{arith}
use borrow.Author.Tests.{eq-eqb, ne_eqb}
use lib.ListN.{length, take}
use Rattle.words.specs.Pairs.{counts_of, pairs_of, counts_in}
use Rattle.words.proofs.Standing.{pairs_many}
use Rattle.store.specs.Store.{alike}
use Rattle.connector.specs.Change.{owns}
use Rattle.steps.specs.Send.{same_fields, same_command}
use Rattle.steps.proofs.Deciding.{same_kept}
use Rattle.steps.proofs.send.verdict_of.Goals as goal
use Rattle.steps.proofs.send.verdict_of.Goals.{After-same, Else-not-owns, Else-ne, Start}

-- `==` of two commands' fields is whether they are the same
equal : (a b : Fields) → (eqb a.id b.id && (eqb a.freq b.freq && (eqb a.repeat b.repeat && eqb a.offset b.offset))) ≡ same_fields a b
unfolding same_fields
equal a b = go (eqb a.id b.id) (eqb a.freq b.freq) (eqb a.repeat b.repeat) (eqb a.offset b.offset)
  where
    go : (p q r s : Bool) → (p && (q && (r && s))) ≡ first ((not p ⇒ false) ∷ (not q ⇒ false) ∷ (not r ⇒ false) ∷ []) s
    go false q r s = refl
    go true false r s = refl
    go true true false s = refl
    go true true true s = refl

owned : (c : Else-not-owns) → owns c.args.c.owner c.args.connection ≡ true
owned c = sym c.owns.ensures ∙ c.if-not-owns.false

fields : (c : Else-ne) → same_fields c.in-Some.run'.fields c.args.f ≡ true
fields c = sym (equal _ _) ∙ not-false _ (sym c.ne.ensures ∙ c.if-ne.false)

many : (c : Start) → length (pairs_of (counts_in c.args.counts.now c.args.count)) ≡ c.args.count
many c = pairs_many _ _

same :
    (c : After-same) →
    alike (take (2 * c.args.count) c.args.kept.now) (counts_of (pairs_of (counts_in c.args.counts.now c.args.count))) ≡ c.same.result
same c =
    let size : 2 * c.args.count ≤ length c.args.kept.now = omega (arith, c.requires) in
    sym (same_kept _ _ _ size) ∙ sym c.same.ensures

pub returns-then-not-owns : goal.returns-then-not-owns
returns-then-not-owns c = rw (c.in-Some.is, sym c.owns.ensures ∙ c.if-not-owns.true)

pub returns-then-ne : goal.returns-then-ne
unfolding same_command
returns-then-ne c =
    let owned = owned (goal.at.returns-then-ne c).Else-not-owns in
    rw (c.in-Some.is, owned, sym (equal c.in-Some.run'.fields c.args.f) ∙ not-true _ (sym c.ne.ensures ∙ c.if-ne.true))

pub returns-then-run-count : goal.returns-then-run-count
unfolding same_command
returns-then-run-count c =
    let owned = owned (goal.at.returns-then-run-count c).Else-not-owns in
    let fields = fields (goal.at.returns-then-run-count c).Else-ne in
    let many = many (goal.at.returns-then-run-count c).Start in
    rw (c.in-Some.is, owned, fields, many, ne_eqb _ _ c.if-run-count.true)

pub returns-in_default : goal.returns-in_default
returns-in_default c = rw c.in_default.is

pub returns-then-same : goal.returns-then-same
unfolding same_command
returns-then-same c =
    let owned = owned (goal.at.returns-then-same c).Else-not-owns in
    let fields = fields (goal.at.returns-then-same c).Else-ne in
    let many = many (goal.at.returns-then-same c).Start in
    let same = same (goal.at.returns-then-same c).After-same in
    let kept = same ∙ c.if-same.true in
    rw (c.in-Some.is, owned, fields, many, eq-eqb _ _ c.if-run-count.false, kept)

pub returns-else-same : goal.returns-else-same
unfolding same_command
returns-else-same c =
    let owned = owned (goal.at.returns-else-same c).Else-not-owns in
    let fields = fields (goal.at.returns-else-same c).Else-ne in
    let many = many (goal.at.returns-else-same c).Start in
    let same = same (goal.at.returns-else-same c).After-same in
    let kept = same ∙ c.if-same.false in
    rw (c.in-Some.is, owned, fields, many, eq-eqb _ _ c.if-run-count.false, kept)
