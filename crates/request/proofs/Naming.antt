-- The word that a line begins with is the one candidate, or none.
use Prim.Native.Nat.{ℕ, zero, suc, ◌≤◌, ◌<◌}
use mathlib.Core.Path.{◌≡◌, refl, sym, ap, ◌∙◌}
use mathlib.Core.List.{List, [], ◌∷◌}
use mathlib.Core.Logic.{◌⊎◌, inl, inr, ⊎_elim}
use mathlib.Core.Bool.{true, false}
use native.Mathlib.Omega.{arith}
use borrow.Author.Tests.{eqb-true}
use Rattle.std.specs.Prelude.{Some, None}
use lib.Dec.{eqb}
use lib.ListN.{length, get_or}
use Rattle.laws.proofs.Choice.{by_test, not_both}
use Rattle.text.specs.Field.{field_is}
use Rattle.request.specs.declared.Fixed.TheVariants.{Devices, Version}
use Rattle.request.specs.declared.name.Name.TheVariants.{SetIr, GetIr, SetState, GetState, SendIr, StopIr, SetLamp, GetLamp}
use Rattle.request.specs.declared.name.Word.{Word}
use Rattle.request.specs.declared.name.Word.TheVariants.{Alone, Named}
use Rattle.request.specs.Name.{word_of, words, word_among, word_at, candidate}

-- a text that begins with a word has the word's bytes
begins : (w s : List ℕ) (i : ℕ) → field_is w s ≡ true → i < length w → get_or s i 0 ≡ get_or w i 0
begins [] s i e h = absurd (omega arith)
begins (a ∷ w) [] i e h = not_both e refl
begins (a ∷ w) (b ∷ s) i e h =
    by_test (eqb b a)
    (λ t. go (λ k l. begins w s k (rw t at e) l) i (eqb-true b a t) h)
    (λ t. not_both (rw t at e) refl)
  where
    go : ((k : ℕ) → k < length w → get_or s k 0 ≡ get_or w k 0) → (k : ℕ) → b ≡ a → k < length (a ∷ w) → get_or (b ∷ s) k 0 ≡ get_or (a ∷ w) k 0
    go rest zero t l = t
    go rest (suc k) t l = rest k (omega arith)

-- a word is one of some
abbrev Among : Word → List Word → Type 0
Among w [] = ⊥
Among w (v ∷ ws) = (w ≡ v) ⊎ Among w ws

-- a word is one of all, and its first, fourth and fifth bytes tell it from all others
record Told (w : Word) : Type 0 where
  among : Among w words
  long : 5 ≤ length (word_of w)
  is : candidate (get_or (word_of w) 0 0) (get_or (word_of w) 3 0) (get_or (word_of w) 4 0) ≡ w

-- every word is
told : (w : Word) → Told w
unfolding candidate
told (Alone Devices) = record { among = inl refl; long = omega arith; is = refl }
told (Alone Version) = record { among = inr (inl refl); long = omega arith; is = refl }
told (Named SetIr) = record { among = inr (inr (inl refl)); long = omega arith; is = refl }
told (Named GetIr) = record { among = inr (inr (inr (inl refl))); long = omega arith; is = refl }
told (Named SetState) = record { among = inr (inr (inr (inr (inl refl)))); long = omega arith; is = refl }
told (Named GetState) = record { among = inr (inr (inr (inr (inr (inl refl))))); long = omega arith; is = refl }
told (Named SendIr) = record { among = inr (inr (inr (inr (inr (inr (inl refl)))))); long = omega arith; is = refl }
told (Named StopIr) = record { among = inr (inr (inr (inr (inr (inr (inr (inl refl))))))); long = omega arith; is = refl }
told (Named SetLamp) = record { among = inr (inr (inr (inr (inr (inr (inr (inr (inl refl)))))))); long = omega arith; is = refl }
told (Named GetLamp) = record { among = inr (inr (inr (inr (inr (inr (inr (inr (inr (inl refl))))))))); long = omega arith; is = refl }

module _ (s : List ℕ) where
  abbrev likely : Word
  likely = candidate (get_or s 0 0) (get_or s 3 0) (get_or s 4 0)

  -- no other word than the candidate can be the first field
  only : (w : Word) → field_is (word_of w) s ≡ true → likely ≡ w
  only w e =
      let l = (told w).long in
      rw (begins (word_of w) s 0 e (omega arith), begins (word_of w) s 3 e (omega arith), begins (word_of w) s 4 e (omega arith)) (told w).is

  -- so it is found among the words where it is the first field, and nothing is where it is not
  found : (ws : List Word) → field_is (word_of likely) s ≡ true → Among likely ws → word_among ws s ≡ Some likely
  found [] e a = absurd a
  found (w ∷ ws) e a =
      by_test (field_is (word_of w) s)
      (λ t. rw t (ap Some (sym (only w t))))
      (λ t. rw t (found ws e (⊎_elim (λ (q : likely ≡ w). not_both (ap (λ (v : Word). field_is (word_of v) s) (sym q) ∙ e) t) (λ b. b) a)))

  missing : (ws : List Word) → field_is (word_of likely) s ≡ false → word_among ws s ≡ None
  missing [] e = refl
  missing (w ∷ ws) e =
      by_test (field_is (word_of w) s)
      (λ t. not_both (ap (λ (v : Word). field_is (word_of v) s) (only w t) ∙ t) e)
      (λ t. rw t (missing ws e))

  -- the line's word is the candidate, where the first field is that, and unknown where not
  module _ (w : Word) (e : w ≡ likely) where
    pub word_known : field_is (word_of w) s ≡ true → word_at s ≡ Some w
    unfolding word_at
    word_known h = found words (rw e at h) (told likely).among ∙ ap Some (sym e)

    pub word_unknown : field_is (word_of w) s ≡ false → word_at s ≡ None
    unfolding word_at
    word_unknown h = missing words (rw e at h)
