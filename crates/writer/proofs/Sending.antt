-- Laws of the writer of a sendir line: each refusal writes nothing, and the line is laid down whole.
use Prim.Native.Nat.{ℕ, zero, suc, ◌+◌, ◌*◌, ◌≤◌, ◌<◌}
use mathlib.Core.Path.{◌≡◌, refl, sym, ap, ◌∙◌}
use native.Mathlib.Nat.{zero-add}
use native.Mathlib.Omega.{arith}
use mathlib.Core.List.{List}
use borrow.Author.Tests.{lt-ltb, le-ltb}
use lib.ListN.{length}
use Rattle.std.proofs.Common.{Ok, Err}
use Rattle.laws.specs.Lists.{numbers}
use Rattle.laws.specs.Put.{Put}
use Rattle.laws.proofs.Put.{over_nothing}
use Rattle.words.specs.declared.Pair.{Pair}
use Rattle.words.specs.declared.Fields.{Fields}
use Rattle.words.specs.Pairs.{pairs_of, counts_in}
use Rattle.words.proofs.Standing.{pairs_back}
use Rattle.decoder.specs.Follows.{pairs_at}
use Rattle.command.specs.declared.given.Command.{Command}
use Rattle.command.specs.Read.{found_in, CommandInto}
use Rattle.command.specs.Given.{command_given}
use Rattle.command.proofs.Commands.{fault_read, sent_read}
use Rattle.writer.specs.declared.Form.{Form}
use Rattle.writer.specs.Sendir.{Small, refused, outcome, sendir_line, Wrote}
use Rattle.writer.proofs.Limits.{Taken, given_taken, small}

-- the pairs that stand in memory are those of the counts there
pairs_standing : (memory : List ℕ) (i n : ℕ) → pairs_at memory i n ≡ pairs_of (numbers memory (2 * i) (2 * n))
pairs_standing memory i zero = refl
pairs_standing memory i (suc n) =
    let two : 2 * suc n ≡ suc (suc (2 * n)) = omega arith in
    let on : 2 * suc i ≡ suc (suc (2 * i)) = omega arith in
    let off : 2 * i + 1 ≡ suc (2 * i) = omega arith in
    rw (two, off, pairs_standing memory (suc i) n, on)

module _ {before : List ℕ} {form : Form} {c : Command} {given : List ℕ} where
  nothing : {number : ℕ} → outcome (length before) form c given ≡ refused number → Wrote before form c given before (Err number)
  nothing e = record { answer = rw e; laid = rw e (sym (over_nothing before 0)) }

  pub no_room : length before < 4096 → Wrote before form c given before (Err 105)
  unfolding outcome
  no_room h = nothing (rw (lt-ltb (length before) 4096 h))

module _ (c : Command) (given : List ℕ) {counts counts' : List ℕ} where
  -- a command that is refused
  pub not_taken : {before : List ℕ} {form : Form} {number : ℕ} → 4096 ≤ length before → CommandInto (command_given c given) counts (Err number) counts'
      → Wrote before form c given before (Err number)
  unfolding outcome
  not_taken {before} room k = nothing (rw (le-ltb (length before) 4096 room, fault_read (command_given c given) k.result))

  -- one that is taken
  module _ {f : Fields} {n : ℕ} (k : CommandInto (command_given c given) counts (Ok (f, n)) counts') where
    abbrev ps : List Pair
    ps = found_in (command_given c given)

    taken : Taken c given f ps
    taken = given_taken c given f ps (sent_read (command_given c given) k.result).0

    pub head_small : Small c.place.port f
    head_small = small taken.place taken.accepts.fields

    pub few_pairs : n ≤ 260
    few_pairs = omega (arith, taken.accepts.code.most, (sent_read (command_given c given) k.result).1)

    -- its pairs stand in memory
    standing : pairs_at counts' 0 n ≡ ps
    unfolding counts_in
    standing = pairs_standing counts' 0 n ∙ rw ((sent_read (command_given c given) k.result).1, k.front, pairs_back ps)

    pub whole_line : {before after : List ℕ} {form : Form} {next : ℕ} → 4096 ≤ length before
        → Put before 0 (sendir_line form c.place f (pairs_at counts' 0 n)) after next → Wrote before form c given after (Ok next)
    unfolding outcome
    whole_line {before} {form = form} room q =
        let p = rw standing at q in
        let is = (sent_read (command_given c given) k.result).0 in
        record {
          answer =
              ap Ok (p.place ∙ zero-add (length (sendir_line form c.place f ps)))
              ∙ rw (le-ltb (length before) 4096 room, is);
          laid = rw (le-ltb (length before) 4096 room, is) p.laid;
        }
