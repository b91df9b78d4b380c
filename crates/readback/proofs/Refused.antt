-- A request that the composer refuses, spelled out, gets the same number from the hub's own reading.
use Prim.Native.Nat.{ℕ, ◌≤◌}
use mathlib.Core.Path.{◌≡◌}
use mathlib.Core.List.{List, []}
use native.Mathlib.Omega.{arith}
use borrow.Author.Tests.{ne_eqb}
use lib.Dec.{leb, eqb}
use lib.ListN.{length}
use Rattle.laws.proofs.Choice.{by_test}
use Rattle.words.specs.Pairs.{pairs_of}
use Rattle.request.specs.Request.{read_request}
use Rattle.command.specs.declared.given.Command.{Command}
use Rattle.reads.proofs.Cursor.{next}
use Rattle.reads.proofs.Rows.{one_module}
use Rattle.composer.specs.declared.Wish.{Wish}
use Rattle.composer.specs.Fault.{place_fault, fields_fault, counts_fault, sendir_fault, wish_fault}
use Rattle.composer.specs.Compose.{wish_text}
use Rattle.readback.specs.Composed.{place_in, WideWish, WideCommand, fault_for, spelled_out, RefusedAs, by_place, by_command}
use Rattle.readback.proofs.Placed.{there, line_read}
use Rattle.readback.proofs.Wishes.{wish_read}
use Rattle.readback.proofs.Sendirs.{spelled_line, spelled_fields, fields_refused, code_refused, offset_refused}

-- a wish that the composer refuses is refused by the hub, with the same number
pub refused_as_read : (wish : Wish) → WideWish wish → (wish_fault wish ≡ 0 → ⊥)
    → read_request (wish_text wish) ≡ fault_for (wish_fault wish) (place_in wish)
refused_as_read wish w wrong = rw (wish_read wish w, ne_eqb (wish_fault wish) 0 wrong)

-- and so is a sendir that the hub can take whole
pub sendir_refused_as_read : (c : Command) (counts : List ℕ) → WideCommand c counts → length (spelled_out c counts) ≤ 4096
    → (sendir_fault c counts ≡ 0 → ⊥) → RefusedAs (spelled_out c counts) c.place (sendir_fault c counts)
unfolding sendir_fault
sendir_refused_as_read c counts w short wrong =
    let l = spelled_line c counts in
    let at = next (there l) in
    let x = spelled_fields c counts w in
    let read = line_read l 1 1 (one_module 1) (omega arith) w.m w.port short in
    by_test (eqb (place_fault 1 1 c.place) 0)
    (λ p.
    let asked = rw p at read in
    rw p
    (by_test (eqb (fields_fault c.fields) 0)
    (λ f. rw f
    (by_test (eqb (counts_fault c.fields.freq counts) 0)
    (λ k. rw k
    (by_test (leb (length counts) c.fields.offset)
    (λ o. rw o (by_command _ (pairs_of counts) asked (offset_refused at x f k o)))
    (λ o. absurd (wrong (rw (p, f, k, o))))))
    (λ k. let r = code_refused at x f k in rw k (by_command _ r.0 asked r.1))))
    (λ f. rw f (by_command _ [] asked (fields_refused at x f)))))
    (λ p. rw p (by_place (rw p at read)))
