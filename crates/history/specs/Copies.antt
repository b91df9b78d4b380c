-- How many copies of a transmission are sent in all, told from the log. Document 01: "the transmission is renewed .. A line may be renewed for
-- days"; document 02, request 2: "the total becomes copies finished plus repeat".
use Rattle.std.specs.Prelude.{ℕ, ◌+◌, ◌≡◌, Bool, true, not, List, ◌∷◌, ◌++◌}
use Rattle.laws.specs.Lists.{all}
use Rattle.meaning.specs.Time.{Transmission, finished}
use Rattle.meaning.specs.Log.{Deed, event, started, renewed, now}
use Rattle.theorems.specs.Notices.{touches}

-- a deed that starts, renews and halts nothing on connector p
abbrev pub spares : ℕ → Deed → Bool
spares p d = not (touches p d)

-- Since its start or its last renewal, the later of them, nothing else befell it; its copies are its repeat, or those finished at that last
-- renewal plus repeat.
pub data CopiesBy (log : List Deed) (p : ℕ) (s : Transmission) : Type 0 where
  at_start : (since earlier : List Deed) (connection : ℕ) → log ≡ since ++ (event (started p connection s.fields s.pairs) ∷ earlier)
      → all (spares p) since ≡ true → s.copies ≡ s.fields.repeat → CopiesBy log p s
  at_renewal : (since earlier : List Deed) → log ≡ since ++ (event (renewed p) ∷ earlier)
      → all (spares p) since ≡ true → s.copies ≡ finished s (now earlier) + s.fields.repeat → CopiesBy log p s
