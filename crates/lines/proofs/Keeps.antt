-- An assembler stays sound, a refused call changes nothing, and what a call uses is within its piece.
use Prim.Native.Nat.{ℕ, ◌≤◌, ◌<◌}
use mathlib.Core.Path.{◌≡◌, refl, ap, ◌∙◌}
use Rattle.std.proofs.Common.{Result, Ok, Err}
use mathlib.Core.Bool.{not}
use mathlib.Core.List.{List, []}
use native.Mathlib.Omega.{arith}
use lib.Dec.{eqb, ltb}
use lib.ListN.{length}
use borrow.Author.Tests.{eqb-true, eqb-false, ltb-true, ltb-false, not-true, not-false}
use Rattle.laws.proofs.Choice.{cond_case}
use Rattle.lines.specs.declared.Assembler.{Assembler}
use Rattle.lines.specs.declared.Taken.{Taken}
use Rattle.lines.specs.declared.Found.TheVariants.{Nothing}
use Rattle.lines.specs.Take.{fresh_assembler, SoundAssembler, found_of, until_cr, Step, step_of, ended_step, unfinished_step, joined_step, take_step, answer_of, assembler_after, used_by, buffer_after, Takes}
use Rattle.lines.proofs.Taking.{counted_most, granted, from_start, at_end_law}

-- what holds of each of the two ends of a call that is not refused, where it is the one, holds of the call
pub joined_case : (a : Assembler) (buffer piece : List ℕ) (P : Step → Type 0)
    → (length (until_cr piece) < length piece → P (ended_step a buffer (until_cr piece)))
    → (length piece ≤ length (until_cr piece) → P (unfinished_step a buffer piece))
    → P (joined_step a buffer piece)
unfolding joined_step
joined_case a buffer piece P e u =
    cond_case P (ltb (length (until_cr piece)) (length piece)) (ended_step a buffer (until_cr piece)) (unfinished_step a buffer piece)
    (λ l. e (ltb-true _ _ l)) (λ l. u (ltb-false _ _ l))

-- and of a call on any buffer, where it holds of a refusal too
pub take_case : (a : Assembler) (buffer piece : List ℕ) (P : Result Step ℕ → Type 0)
    → ((length buffer ≡ 4096 → ⊥) → P (Err 107))
    → (length buffer ≡ 4096 → P (Ok (joined_step a buffer piece)))
    → P (take_step a buffer piece)
unfolding take_step
take_case a buffer piece P r j =
    cond_case P (not (eqb (length buffer) 4096)) (Err 107) (Ok (joined_step a buffer piece))
    (λ t. r (eqb-false _ _ (not-true _ t))) (λ t. j (eqb-true _ _ (not-false _ t)))

pub fresh_sound : SoundAssembler fresh_assembler
fresh_sound = record { few = omega arith }

module _ (a : Assembler) (buffer piece : List ℕ) where
  pub joined_sound : SoundAssembler (joined_step a buffer piece).taken.assembler
  joined_sound =
      joined_case a buffer piece (λ (x : Step). SoundAssembler x.taken.assembler)
      (λ l. fresh_sound) (λ l. record { few = counted_most _ })

  pub used_within : (joined_step a buffer piece).taken.used ≤ length piece
  used_within = joined_case a buffer piece (λ (x : Step). x.taken.used ≤ length piece) (λ l. l) (λ l. omega arith)

  -- so that a loop over a piece ends
  pub used_some : 0 < length piece → 0 < (joined_step a buffer piece).taken.used
  used_some some = joined_case a buffer piece (λ (x : Step). 0 < x.taken.used) (λ l. omega arith) (λ l. some)

  pub take_sound : SoundAssembler a → SoundAssembler (assembler_after a (take_step a buffer piece))
  take_sound s = take_case a buffer piece (λ (x : Result Step ℕ). SoundAssembler (assembler_after a x)) (λ r. s) (λ k. joined_sound)

  -- a refused call is 107, uses nothing and leaves assembler and buffer equal
  pub refused_take : (number : ℕ) → answer_of (take_step a buffer piece) ≡ Err number → let x = take_step a buffer piece in
      (x ≡ Err 107) × (used_by x ≡ 0) × (assembler_after a x ≡ a) × (buffer_after buffer x ≡ buffer)
  refused_take number =
      take_case a buffer piece
      (λ (x : Result Step ℕ).
      answer_of x ≡ Err number → (x ≡ Err 107) × (used_by x ≡ 0) × (assembler_after a x ≡ a) × (buffer_after buffer x ≡ buffer))
      (λ r e. (refl, refl, refl, refl)) (λ k e. absurd (cc))

-- an empty piece changes nothing
pub empty_take : (a : Assembler) (buffer : List ℕ) → SoundAssembler a → length buffer ≡ 4096
    → take_step a buffer [] ≡ Ok (step_of a 0 Nothing buffer)
unfolding found_of
empty_take a buffer s h = granted a buffer [] h ∙ ap Ok (from_start a buffer [] ∙ at_end_law 0 a.size buffer [] (omega arith) s.few)

-- ---- the same of what a call returned, for its callers
module _ (a : Assembler) (buffer piece : List ℕ) where
  -- on a buffer of its size it is not refused
  pub takes_joined : length buffer ≡ 4096 → {r : Result Taken ℕ} {after : List ℕ} → Takes (take_step a buffer piece) buffer r after
      → (r ≡ Ok (joined_step a buffer piece).taken) × (after ≡ (joined_step a buffer piece).buffer)
  takes_joined h t = let is = rw (granted a buffer piece h) at t in (is.result, is.laid)

module _ (a : Assembler) (buffer piece : List ℕ) {r : Taken} {after : List ℕ} (t : Takes (take_step a buffer piece) buffer (Ok r) after) where
  returned : r ≡ (joined_step a buffer piece).taken
  returned =
      take_case a buffer piece (λ (x : Result Step ℕ). Ok r ≡ answer_of x → r ≡ (joined_step a buffer piece).taken)
      (λ k e. absurd (cc)) (λ k e. cc) t.result

  pub takes_sound : SoundAssembler r.assembler
  takes_sound = rw returned (joined_sound a buffer piece)

  pub takes_within : r.used ≤ length piece
  takes_within = rw returned (used_within a buffer piece)

  pub takes_some : 0 < length piece → 0 < r.used
  takes_some some = rw returned (used_some a buffer piece some)
