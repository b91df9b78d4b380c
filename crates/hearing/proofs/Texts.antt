-- Laws of a reply that is written into a buffer to be compared without its CR, and of what the reader then gives.
use Prim.Native.Nat.{ℕ, ◌-◌, ◌≤◌}
use mathlib.Core.Path.{◌≡◌, sym, ap, ◌∙◌}
use mathlib.Core.Bool.{true, false}
use mathlib.Core.List.{List, [], ◌∷◌}
use native.Mathlib.Omega.{arith}
use native.Mathlib.Nat.{zero-add}
use lib.ListN.{length, take, length-append}
use lib.Seq.{take-take}
use Rattle.laws.specs.Lists.{same}
use Rattle.laws.specs.Put.{over, Put}
use Rattle.laws.proofs.Lists.{same_is}
use Rattle.laws.proofs.Put.{over_front}
use Rattle.reply.specs.declared.Reply.{Reply}
use Rattle.reply.specs.Reply.{reply_text}
use Rattle.reply.proofs.Endings.{ends_with_cr}
use Rattle.logger.specs.declared.Heard.{Heard}
use Rattle.logger.specs.declared.Heard.TheVariants.{NotReply}
use Rattle.logger.specs.Heard.{line_of, writable, Hears, heard}
use Rattle.hearing.specs.Guess.{guessed, read_reply, without_cr}
use Rattle.hearing.proofs.Back.{reply_heard}

module _ (r : Reply) {b a : List ℕ} {n : ℕ} (p : Put b 0 (reply_text r) a n) where
  pub put_some : 1 ≤ n
  put_some = omega (arith, p.place, ap length (ends_with_cr r).is ∙ length-append (ends_with_cr r).front (13 ∷ []))

  pub put_line : take (n - 1) a ≡ without_cr (reply_text r)
  put_line =
      let t = reply_text r in
      let e : n ≡ length t = p.place ∙ zero-add (length t) in
      let whole : take (length t) a ≡ t =
      rw p.laid (ap (λ (k : ℕ). take k (over b 0 t)) (sym (zero-add (length t))) ∙ over_front b 0 t (omega arith)) in
      rw e (sym (take-take (length t - 1) (length t) a (omega arith)) ∙ ap (take (length t - 1)) whole)

-- ---- what the reader gives
module _ (s : List ℕ) (h : Heard) (g : h ≡ guessed s) where
  pub hears_unwritable : writable h ≡ false → Hears s NotReply
  unfolding read_reply
  hears_unwritable e = let read : read_reply s ≡ NotReply = rw (← g, e) in rw (← read) (reply_heard s)

  pub hears_other : writable h ≡ true → same (line_of h) s ≡ false → Hears s NotReply
  unfolding read_reply
  hears_other e f = let read : read_reply s ≡ NotReply = rw (← g, e, f) in rw (← read) (reply_heard s)

  pub hears_same : writable h ≡ true → same (line_of h) s ≡ true → Hears s h
  hears_same e f = heard (record { may = e; is = same_is (line_of h) s f })
