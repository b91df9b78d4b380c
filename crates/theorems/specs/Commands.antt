-- What a command does to a connector: the sentences of document 01's "Time on a connector" on commands.
use Rattle.std.specs.Prelude.{ℕ, ◌+◌, ◌≡◌, List, [], ◌∷◌, ◌++◌}
use Rattle.std.proofs.Math.Option.{Option, none, some}
use Rattle.laws.specs.Bytes.{bytes}
use Rattle.words.specs.Decimal.{decimal}
use Rattle.words.specs.declared.Pair.{Pair}
use Rattle.words.specs.declared.Fields.{Fields}
use Rattle.meaning.specs.Line as text
use Rattle.meaning.specs.Line.{addressed}
use Rattle.meaning.specs.Time.{Transmission, finished}
use Rattle.meaning.specs.Time as time
use Rattle.meaning.specs.Log.{Deed, event, started, renewed, now, last_of, owner_of, on_air}
use Rattle.meaning.specs.Table.{Call, does, taken, replied, reply, answer_of, judge, logged}

module _ (log : List Deed) (call : Call) (connection p : ℕ) (f : Fields) (ps : List Pair) where
  -- "starts with the sender as owner": nothing is written, and the command is the connector's last, from now on
  pub record Starts : Type 0 where
    pub judged : judge log call ≡ does (taken []) (event (started p connection f ps) ∷ [])
    pub owner : owner_of p (logged log call) ≡ some connection
    pub last : last_of p (logged log call) ≡ some (time.started f ps (now log))

  -- "the transmission is renewed"; by request 2 of document 02 "the total becomes copies finished plus repeat": owner and start stay
  pub record Renews (t : Transmission) : Type 0 where
    pub judged : judge log call ≡ does (taken []) (event (renewed p) ∷ [])
    pub owner : owner_of p (logged log call) ≡ some connection
    pub last : last_of p (logged log call)
        ≡ some (record { fields = f; pairs = ps; start = t.start; copies = finished t (now log) + f.repeat })

-- "busyIR with the refused line's id, hub unchanged"
pub record Busy (log : List Deed) (call : Call) (p id : ℕ) : Type 0 where
  pub judged : judge log call ≡ reply (text.line "busyIR," 1 p (decimal id)) []
  pub unchanged : logged log call ≡ log

-- "`stopir,1:p`; the same to the owner of a halted transmission, if another connection", nobody else: whom besides the asker
pub data Tells (log : List Deed) (connection p : ℕ) : Option ℕ → Type 0 where
  another : {t : Transmission} {other : ℕ} → on_air p log ≡ some t → owner_of p log ≡ some other → (other ≡ connection → ⊥)
      → Tells log connection p (some other)
  idle : on_air p log ≡ none → Tells log connection p none
  ownerless : owner_of p log ≡ none → Tells log connection p none
  itself : owner_of p log ≡ some connection → Tells log connection p none

-- the asker and that owner are answered, and the connector is idle
pub record Stops (log : List Deed) (call : Call) (connection p : ℕ) : Type 0 where
  pub owner : Option ℕ
  pub told : Tells log connection p owner
  pub answer : answer_of (judge log call) ≡ replied (addressed "stopir," 1 p ++ bytes "\r") owner
  pub halts : on_air p (logged log call) ≡ none
  pub owned : owner_of p (logged log call) ≡ none
