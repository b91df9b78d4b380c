-- Who started what a connector has.
use Rattle.std.specs.Prelude.{ℕ, ◌≡◌, List, [], ◌∷◌, ◌++◌}
use Rattle.words.specs.declared.Pair.{Pair}
use Rattle.words.specs.declared.Fields.{Fields}
use Rattle.meaning.specs.Log.{Deed, event, started}
use Rattle.meaning.specs.Table.{Call, line, judge, deeds_of, log_of}

-- one of these deeds started a transmission on connector p by this connection
pub record StartedBy (connection p : ℕ) (deeds : List Deed) : Type 0 where
  pub fields : Fields
  pub pairs : List Pair
  pub later : List Deed
  pub earlier : List Deed
  pub splits : deeds ≡ later ++ (event (started p connection fields pairs) ∷ earlier)

-- one of the calls after a history is a line of this connection that started a transmission on connector p
pub record StartedAfter (history : List Call) (connection p : ℕ) (calls : List Call) : Type 0 where
  pub room : ℕ
  pub text : List ℕ
  pub fields : Fields
  pub pairs : List Pair
  pub later : List Call
  pub earlier : List Call
  pub splits : calls ≡ later ++ (line connection room text ∷ earlier)
  pub starts : deeds_of (judge (log_of (earlier ++ history)) (line connection room text)) ≡ event (started p connection fields pairs) ∷ []
