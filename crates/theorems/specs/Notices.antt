-- The notices that a connector's transmissions give over many calls, the first of them first.
use Rattle.std.specs.Prelude.{ℕ, zero, suc, ◌+◌, ◌≡◌, Bool, true, false, cond, not, List, [], ◌∷◌, ◌++◌, eqb, length, take}
use Rattle.laws.specs.Bytes.{bytes}
use Rattle.laws.specs.Lists.{all, same}
use Rattle.words.specs.Decimal.{decimal}
use Rattle.meaning.specs.Line as text
use Rattle.meaning.specs.Line.{addressed}
use Rattle.meaning.specs.Time.{Transmission, finish}
use Rattle.meaning.specs.Log.{Deed, passed, setting, switched, event, started, renewed, halted, left, now}
use Rattle.meaning.specs.Table.{Completion, Answer, refused, taken, replied, Call, waiting, answer_of, deeds_of, judge, logged}

-- a notice, at a moment from the start of the history
pub record Notice : Type 0 where
  pub moment : ℕ
  pub words : List ℕ

-- "completeir,1:p,id" at the moment of a transmission's completion
abbrev pub notice_of : ℕ → Transmission → Notice
notice_of p s = record { moment = finish s; words = text.line "completeir," 1 p (decimal s.fields.id) }

-- whether a completion's notice begins with `completeir,1:p,`
unfoldable pub is_for : ℕ → Completion → Bool
is_for p x = let front = addressed "completeir," 1 p ++ bytes "," in same front (take (length front) x.notice)

-- those for connector p of a wait that began at t
abbrev pub notices_in : ℕ → ℕ → List Completion → List Notice
notices_in p t [] = []
notices_in p t (x ∷ l) = cond (is_for p x) (record { moment = t + x.moment; words = x.notice } ∷ notices_in p t l) (notices_in p t l)

abbrev pub notices_of : ℕ → ℕ → Answer → List Notice
notices_of p t (refused n) = []
notices_of p t (taken completions) = notices_in p t completions
notices_of p t (replied words told) = []

-- those for connector p of all answers to these calls
abbrev pub notices : ℕ → List Deed → List Call → List Notice
notices p log [] = []
notices p log (call ∷ l) = notices_of p (now log) (answer_of (judge log call)) ++ notices p (logged log call) l

-- the log after these calls
abbrev pub logged_all : List Deed → List Call → List Deed
logged_all log [] = log
logged_all log (call ∷ l) = logged_all (logged log call) l

-- none of these calls does what a test tells
abbrev pub Never : (Deed → Bool) → List Deed → List Call → Type 0
Never test log [] = Unit
Never test log (call ∷ l) = (all (λ d. not (test d)) (deeds_of (judge log call)) ≡ true) × Never test (logged log call) l

abbrev pub starts_on : ℕ → Deed → Bool
starts_on p (passed n) = false
starts_on p (setting q x) = false
starts_on p (switched q state) = false
starts_on p (event (started q connection f ps)) = eqb q p
starts_on p (event (renewed q)) = false
starts_on p (event (halted q)) = false
starts_on p (event (left connection)) = false

abbrev pub touches : ℕ → Deed → Bool
touches p (passed n) = false
touches p (setting q x) = false
touches p (switched q state) = false
touches p (event (started q connection f ps)) = eqb q p
touches p (event (renewed q)) = eqb q p
touches p (event (halted q)) = eqb q p
touches p (event (left connection)) = false

-- none of these calls starts, renews or halts a transmission on connector p
abbrev pub LeftAlone : ℕ → List Deed → List Call → Type 0
LeftAlone p log l = Never (touches p) log l

-- none of them starts one
abbrev pub Unstarted : ℕ → List Deed → List Call → Type 0
Unstarted p log l = Never (starts_on p) log l

-- so many waits of 1,000,000,000 microseconds, the longest
abbrev pub longest_waits : ℕ → List Call
longest_waits zero = []
longest_waits (suc k) = waiting 1000000000 ∷ longest_waits k
