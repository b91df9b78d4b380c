-- Laws of a sendir: the run that it starts, whether it is the command that is being sent, and what its reading makes of a connector.
use Prim.Native.Nat.{ℕ, ◌-◌, ◌*◌, ◌/◌, ◌≤◌, ◌<◌}
use mathlib.Core.Path.{◌≡◌, sym}
use mathlib.Core.Bool.{false}
use mathlib.Core.List.{List}
use native.Mathlib.Omega.{arith}
use lib.ListN.{length, take}
use lib.Seq.{take_all}
use Rattle.std.proofs.Common.{Ok, Err}
use Rattle.laws.specs.Lists.{numbers}
use Rattle.words.specs.declared.Pair.{Pair}
use Rattle.words.specs.declared.Fields.{Fields}
use Rattle.words.specs.Pairs.{counts_of, pairs_of, counts_in}
use Rattle.words.proofs.Standing.{pairs_back, counts_first, pairs_many, pairs_counts}
use Rattle.meaning.specs.Time.{lasts}
use Rattle.request.specs.declared.Place.{Place}
use Rattle.request.specs.Mode.{is_silent}
use Rattle.command.specs.Read.{command_at, found_in, CommandInto, Accepts}
use Rattle.command.proofs.Commands.{fault_read, sent_read, command_within}
use Rattle.pace.specs.Pace.{periods}
use Rattle.pace.specs.Pace as pace
use Rattle.pace.proofs.Summing.{periods_between}
use Rattle.store.specs.Store.{alike}
use Rattle.connector.specs.declared.Connector.{Connector}
use Rattle.connector.specs.declared.Stepped.{Stepped}
use Rattle.steps.specs.Send.{run_of}
use Rattle.steps.specs.Step.{Makes, fails, command_step, send_step}

-- ---- the first n pairs that stand in memory
module _ (memory : List ℕ) (n : ℕ) where
  -- those pairs
  abbrev ps : List Pair
  ps = pairs_of (counts_in memory n)

  -- what run_of makes of what their parts last
  pub run_made : (f : Fields) → f.offset < 2 * n
      → record {
        fields = f;
        count = n;
        pace =
            pace.started (periods (lasts (numbers memory (2 * 0) (2 * (f.offset / 2 - 0)))))
            (periods (lasts (numbers memory (2 * (f.offset / 2)) (2 * (n - f.offset / 2))))) f.repeat;
      }
      ≡ run_of f ps
  unfolding run_of
  run_made f inside =
      let k = f.offset / 2 in
      let many = pairs_many n memory in
      let stand : counts_in memory (length ps) ≡ counts_of ps = rw many (sym (pairs_counts n memory)) in
      let lead = periods_between memory ps 0 k (omega arith) (omega arith) stand in
      let tail = periods_between memory ps k n (omega arith) (omega arith) stand in
      rw (lead, tail, take_all n ps (omega arith), many)

  -- whether the counts kept are theirs
  pub same_kept : (kept : List ℕ) → 2 * n ≤ length kept → alike (counts_in kept n) (counts_in memory n) ≡ alike (take (2 * n) kept) (counts_of ps)
  same_kept kept h = rw (counts_first n kept h, pairs_counts n memory)

-- ---- what its reading makes of a connector
module _ (text : List ℕ) (at : ℕ) where
  -- the pairs found
  abbrev found : List Pair
  found = found_in (command_at text at)

  module _ {before memory : List ℕ} {f : Fields} {n : ℕ} (k : CommandInto (command_at text at) before (Ok (f, n)) memory) where
    -- it is within the limits
    sent_within : Accepts f found
    sent_within = command_within text at f found (sent_read (command_at text at) k.result).0

    -- so are what the code is given of it: the number of its pairs, and its offset
    pub sent_few : n ≤ 260
    sent_few = omega (arith, sent_within.code.most, (sent_read (command_at text at) k.result).1)

    pub sent_inside : f.offset < 2 * n
    sent_inside = omega (arith, sent_within.offset, (sent_read (command_at text at) k.result).1)

    -- its pairs are those that stand in memory
    standing : pairs_of (counts_in memory n) ≡ found
    standing =
        let many = (sent_read (command_at text at) k.result).1 in
        rw (many, k.front, pairs_back found)

  -- ---- a sendir to a connector that may transmit
  module _ (c : Connector) (kept : List ℕ) (connection : ℕ) (place : Place) (ready : is_silent c.mode ≡ false) {r : Stepped} {before memory : List ℕ}
      {n : ℕ} where
    -- a command with a fault
    pub fault_answered : CommandInto (command_at text at) before (Err n) memory → r ≡ fails n place
        → Makes (send_step c kept connection text place at) r kept
    unfolding send_step
    fault_answered k e =
        let is = fault_read (command_at text at) k.result in
        record { result = rw (ready, is) e; counts = rw (ready, is) }

    -- and one without
    pub sent_answered : {f : Fields} {after : List ℕ} → CommandInto (command_at text at) before (Ok (f, n)) memory
        → Makes (command_step c kept connection place f (pairs_of (counts_in memory n))) r after
        → Makes (send_step c kept connection text place at) r after
    unfolding send_step
    sent_answered k m =
        let is = (sent_read (command_at text at) k.result).0 in
        let its = rw (standing k) at m in
        record { result = rw (ready, is) its.result; counts = rw (ready, is) its.counts }
