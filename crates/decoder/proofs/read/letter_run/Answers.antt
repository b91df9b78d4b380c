use Prim.Native.Nat.{◌+◌, ◌-◌, ◌<◌}
use mathlib.Core.Path.{◌≡◌, sym, ◌∙◌}
use mathlib.Core.Bool.{true}
use native.Mathlib.Omega.{arith}
use lib.ListN.{length, get_or}
use lib.Seq.{get_or-take, length-take-le}
use Rattle.words.specs.Pairs.{pair}
use Rattle.code.specs.Letters.{held}
use Rattle.code.specs.Next.{is_letter}
use Rattle.code.proofs.Nexts.{letter_low}
use Rattle.decoder.proofs.Follows.{run_none, run_more}
use borrow.Author.Rules.{rules}
use Rattle.decoder.proofs.read.letter_run.Goals as goal
use Rattle.decoder.proofs.read.letter_run.Goals.{Else-not-is_letter}

lettered : (c : Else-not-is_letter) → is_letter (get_or c.args.s.now (c.args.at + c.loop-more.more) 0) ≡ true
lettered c = sym c.is_letter.ensures ∙ c.if-not-is_letter.false

pub loop-more-init : goal.loop-more-init
loop-more-init c = (λ freq. run_none, omega arith)

pub overflow_sub-b : goal.overflow_sub-b
overflow_sub-b c = letter_low (lettered (goal.at.overflow_sub-b c).Else-not-is_letter)

pub loop-more-preserved : goal.loop-more-preserved
loop-more-preserved c =
    let letters = c.args.letters in
    let counted : length (held letters) ≡ letters.count =
    let long : length letters.pairs ≡ 15 = c.well_formed.0.1.1.1.0.1.0.1 in
    length-take-le _ _ (omega (arith, c.requires)) in
    let number : get_or c.args.s.now (c.args.at + c.loop-more.more) 0 - 65 < letters.count = rw c.from-i.ensures at c.if-letters-i.false in
    let known = get_or-take letters.count letters.pairs (get_or c.args.s.now (c.args.at + c.loop-more.more) 0 - 65) (pair 0 0) number in
    let size : length c.loop-more.counts ≡ 520 = search rules in
    let put = rw c.from-i.ensures at c.put_pair.ensures in (
      λ freq.
          run_more c.loop-more.more (c.loop-more.invariant.0 freq) (omega (arith, c.most_letters-most.ensures.0))
          (lettered (goal.at.loop-more-preserved c).Else-not-is_letter) (omega (arith, c.most_letters-most.ensures.1))
          (rw counted number) size (rw known put),
      omega arith,
    )

pub returns : goal.returns
returns c = c.loop-more.invariant.0
