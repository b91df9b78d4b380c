-- Laws of the turns: room for every reply, and for whom a reply is.
use Prim.Native.Nat.{ℕ, ◌+◌, ◌-◌, ◌≤◌}
use mathlib.Core.Path.{◌≡◌, ap, ◌∙◌}
use mathlib.Core.Bool.{Bool}
use mathlib.Core.List.{List, ◌++◌}
use native.Mathlib.Omega.{arith}
use borrow.Author.Tests.{le-ltb, ltb-false}
use lib.Dec.{ltb}
use lib.ListN.{length, take, drop, length-append}
use Rattle.laws.specs.Put.{over, Put}
use Rattle.laws.proofs.Choice.{cond_case}
use Rattle.laws.proofs.Put.{over_length, over_nothing}
use Rattle.words.specs.Decimal.{decimal}
use Rattle.text.proofs.Decimals.{decimal_some}
use Rattle.request.specs.Place.{nowhere}
use Rattle.request.specs.Request.{read_request}
use Rattle.reply.specs.Reply.{reply_text}
use Rattle.reply.proofs.Lengths.{reply_fits}
use Rattle.connector.specs.declared.Answer.{Answer}
use Rattle.connector.specs.declared.Answer.TheVariants as answer
use Rattle.hub.specs.declared.Answered.{Answered}
use Rattle.hub.specs.declared.Decided.{Decided}
use Rattle.hub.specs.declared.Hub.{Hub}
use Rattle.hub.specs.Line.{Outcome, Writes, bytes_of, fails, asked_step, line_step, overlong_step}
use Rattle.script.specs.Output.{printed_reply, printed_also, printed_answer}
use Rattle.script.specs.Turn.{line_outcome, ForOne}
use Rattle.script.proofs.Putting.{put_covered, lent_back, stands}
use Rattle.script.proofs.Replies.{sized}

-- more room than every reply needs changes nothing
pub line_roomy : (h : Hub) (store : List ℕ) (connection : ℕ) (text : List ℕ) (room : ℕ) → 128 ≤ room
    → line_step h store connection text room ≡ line_step h store connection text 128
unfolding line_step
line_roomy h store connection text room least = rw (le-ltb room 128 least)

pub overlong_roomy : (connection room : ℕ) → 128 ≤ room → overlong_step connection room ≡ overlong_step connection 128
unfolding overlong_step
overlong_roomy connection room least = rw (le-ltb room 128 least)

-- a line with a reply is of a connection of 0 to 7
any_for : {connection : ℕ} → connection ≤ 7 → (a : Answer) → ForOne connection a
any_for least (answer.Refused number) = tt
any_for least answer.Taken = tt
any_for least (answer.Reply r also) = least

pub for_one_law : (h : Hub) (store : List ℕ) (connection : ℕ) (text : List ℕ) (more : Bool)
    → ForOne connection (line_outcome h store connection text more).decided.answer
unfolding line_outcome line_step overlong_step
for_one_law h store connection text more =
    cond_case Right more _ _
    (λ _. cond_case Told (ltb 7 connection) _ _ (λ _. tt) (λ e. any_for (ltb-false 7 connection e) (fails 15 nowhere).answer))
    (λ _. cond_case Right (ltb 7 connection) _ _ (λ _. tt) (λ e. any_for (ltb-false 7 connection e) (asked_step h store connection text (read_request text)).decided.answer))
  where
    Told : Decided → Type 0
    Told d = ForOne connection d.answer

    Right : Outcome → Type 0
    Right o = Told o.decided

-- ---- an answer whose reply was written into the memory behind room for a digit and a space
fits : (a : Answer) → length (bytes_of a) ≤ 128
fits (answer.Refused number) = omega arith
fits answer.Taken = omega arith
fits (answer.Reply r also) = reply_fits r

-- what is printed covers the reply
shown : (b : List ℕ) (used connection : ℕ) (a : Answer) {after : List ℕ} {next : ℕ} → used + 1024 ≤ length b
    → Put (over b (used + 2) (bytes_of a)) used (printed_answer connection a) after next → Put b used (printed_answer connection a) after next
unfolding printed_answer
shown b used connection (answer.Refused number) room p = rw over_nothing at p
shown b used connection answer.Taken room p = rw over_nothing at p
shown b used connection (answer.Reply r also) room p =
    let asker = printed_reply (decimal connection) (reply_text r) in
    let owner = printed_also also (reply_text r) in
    put_covered b used 2 (reply_text r) (asker ++ owner)
    (omega (arith, length-append asker owner, (sized (decimal connection) r).least, decimal_some connection)) (omega (arith, reply_fits r)) p

module _ (d : Decided) (b : List ℕ) (used : ℕ) {r : Answered} {part : List ℕ} (room : used + 1024 ≤ length b)
    (w : Writes d (take (length b - (used + 2)) (drop (used + 2) b)) r part) where
  -- the memory with the part that was lent in its place again
  abbrev pub again : List ℕ
  again = take (used + 2) b ++ (part ++ drop (length b - (used + 2)) (drop (used + 2) b))

  stood : again ≡ over b (used + 2) (bytes_of d.answer)
  stood =
      ap (λ (l : List ℕ). take (used + 2) b ++ (l ++ drop (length b - (used + 2)) (drop (used + 2) b))) w.laid
      ∙ lent_back b (used + 2) (bytes_of d.answer)

  pub again_length : length again ≡ length b
  again_length = ap length stood ∙ over_length b (used + 2) (bytes_of d.answer) (omega (arith, fits d.answer))

  pub again_stands : again ≡ over again (used + 2) (bytes_of r.answer)
  again_stands =
      rw (w.result, stood) (stands b (used + 2) (bytes_of d.answer) (omega (arith, fits d.answer)))

  pub change_so : r.change ≡ d.change
  change_so = ap (λ (x : Answered). x.change) w.result

  pub sized_so : r.size ≡ length (bytes_of r.answer)
  sized_so = rw w.result

  pub answer_shown : (connection : ℕ) {after : List ℕ} {next : ℕ} → Put again used (printed_answer connection r.answer) after next
      → Put b used (printed_answer connection d.answer) after next
  answer_shown connection p = shown b used connection d.answer room (rw (w.result, stood) at p)
