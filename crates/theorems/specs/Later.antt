-- Logs that are alike: every look-up finds the same in both.
use Rattle.std.specs.Prelude.{ℕ, ◌≡◌, List}
use Rattle.meaning.specs.Log.{Deed, now, mode_of, contact_of, lamp_of, relay_of, last_of, owner_of}

pub record Alike (a b : List Deed) : Type 0 where
  pub moments : now a ≡ now b
  pub modes : (p : ℕ) → mode_of p a ≡ mode_of p b
  pub contacts : (p : ℕ) → contact_of p a ≡ contact_of p b
  pub lamps : (p : ℕ) → lamp_of p a ≡ lamp_of p b
  pub relays : (p : ℕ) → relay_of p a ≡ relay_of p b
  pub lasts : (p : ℕ) → last_of p a ≡ last_of p b
  pub owners : (p : ℕ) → owner_of p a ≡ owner_of p b
