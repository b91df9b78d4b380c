-- Laws of parts with c between them: cut at each c they are these parts again.
use Prim.Native.Nat.{ℕ, suc}
use mathlib.Core.Path.{◌≡◌, refl, ap, ◌∙◌}
use mathlib.Core.Bool.{Bool, true, not}
use mathlib.Core.List.{List, [], ◌∷◌, ◌++◌}
use borrow.Author.Tests.{eq-eqb, not-true}
use lib.Dec.{eqb}
use lib.ListN.{length}
use Rattle.laws.specs.Lists.{all, cut, behind, joined, free}
use Rattle.laws.proofs.Choice.{and_left, and_right, and_true}
use Rattle.laws.proofs.Lists.{all_append}

module _ (c : ℕ) where
  -- a part, c and the rest
  pub cut_next : (w rest : List ℕ) → free c w ≡ true → cut c (w ++ (c ∷ rest)) ≡ w ∷ cut c rest
  cut_next [] rest e = rw (eq-eqb c c refl)
  cut_next (b ∷ w) rest e =
      rw (not-true (eqb b c) (and_left (not (eqb b c)) _ e), cut_next w rest (and_right (not (eqb b c)) _ e))

  pub behind_next : (k : ℕ) (w rest : List ℕ) → free c w ≡ true → behind c (suc k) (w ++ (c ∷ rest)) ≡ behind c k rest
  behind_next k [] rest e = rw (eq-eqb c c refl)
  behind_next k (b ∷ w) rest e =
      rw (not-true (eqb b c) (and_left (not (eqb b c)) _ e)) (behind_next k w rest (and_right (not (eqb b c)) _ e))

  pub cut_free : (w : List ℕ) → free c w ≡ true → cut c w ≡ w ∷ []
  cut_free [] e = refl
  cut_free (b ∷ w) e = rw (not-true (eqb b c) (and_left (not (eqb b c)) _ e), cut_free w (and_right (not (eqb b c)) _ e))

  -- parts without c, and a last one that may have some
  pub cut_joined : (ws : List (List ℕ)) (last : List ℕ) → all (free c) ws ≡ true → cut c (joined c (ws ++ (last ∷ []))) ≡ ws ++ cut c last
  cut_joined [] last e = refl
  cut_joined (w ∷ []) last e = cut_next w last (and_left _ _ e)
  cut_joined (w ∷ v ∷ ws) last e =
      cut_next w (joined c (v ∷ (ws ++ (last ∷ [])))) (and_left (free c w) _ e)
      ∙ ap (λ (l : List (List ℕ)). w ∷ l) (cut_joined (v ∷ ws) last (and_right (free c w) _ e))

  pub behind_joined : (ws : List (List ℕ)) (last : List ℕ) → all (free c) ws ≡ true
      → behind c (length ws) (joined c (ws ++ (last ∷ []))) ≡ last
  behind_joined [] last e = refl
  behind_joined (w ∷ []) last e = behind_next 0 w last (and_left _ _ e)
  behind_joined (w ∷ v ∷ ws) last e =
      behind_next (suc (length ws)) w (joined c (v ∷ (ws ++ (last ∷ [])))) (and_left (free c w) _ e)
      ∙ behind_joined (v ∷ ws) last (and_right (free c w) _ e)

  -- a test that holds of c and in all parts
  pub all_joined : (test : ℕ → Bool) → test c ≡ true → (ws : List (List ℕ)) → all (all test) ws ≡ true → all test (joined c ws) ≡ true
  all_joined test t [] e = refl
  all_joined test t (w ∷ []) e = and_left _ _ e
  all_joined test t (w ∷ v ∷ ws) e =
      all_append test w (c ∷ joined c (v ∷ ws)) (and_left (all test w) _ e)
      (and_true (test c) _ t (all_joined test t (v ∷ ws) (and_right (all test w) _ e)))
