-- The lines of writable replies are exactly those that histories write, by the meaning and by the hub itself.
use Prim.Native.Nat.{ℕ}
use mathlib.Core.Path.{◌≡◌, sym, ap, ◌∙◌}
use mathlib.Core.Logic.{◌↔◌}
use mathlib.Core.Bool.{true}
use mathlib.Core.List.{List, [], ◌∷◌, ◌++◌, map, flatten}
use native.Mathlib.Omega.{arith}
use lib.ListN.{length, length-append}
use Rattle.laws.specs.Lists.{all}
use Rattle.laws.proofs.Choice.{and_left, and_right}
use Rattle.meaning.specs.Table.{Call, Said, said}
use Rattle.lines.specs.Cut.{divided}
use Rattle.hub.specs.Record.{fresh_hub}
use Rattle.history.specs.Run.{run}
use Rattle.history.proofs.Following.{from_fresh}
use Rattle.logger.specs.declared.Heard.{Heard}
use Rattle.logger.specs.Heard.{line_of, writable, IsLine}
use Rattle.logger.proofs.Plain.{parts_spoken}
use Rattle.logged.specs.Written.{written_to, Writes}
use Rattle.logged.proofs.Texts.{says_stream, says_writable}
use Rattle.logged.proofs.Filing.{calls_filed}
use Rattle.logged.proofs.Occasions.{writable_written}

-- ---- a line that is written is that of a reply that was said

line_among : {s : List ℕ} (rs : List Heard) → all writable rs ≡ true → (before after : List (List ℕ)) → map line_of rs ≡ before ++ (s ∷ after)
    → (r : Heard) × IsLine s r
line_among {s} [] may before after e = absurd (omega (arith, ap length e ∙ length-append before (s ∷ after)))
line_among {s} (r ∷ rs) may [] after e = (r, record { may = and_left (writable r) (all writable rs) may; is = cc })
line_among {s} (r ∷ rs) may (w ∷ before) after e =
    let rest : map line_of rs ≡ before ++ (s ∷ after) = cc in
    line_among rs (and_right (writable r) (all writable rs) may) before after rest

pub written_writable : {s : List ℕ} → Writes (said []) s → (r : Heard) × IsLine s r
written_writable w =
    let f = calls_filed [] w.calls w.connection in
    line_among f.heard (says_writable f.says) w.before w.after
    (sym (parts_spoken f.heard) ∙ ap (λ (stream : List ℕ). (divided [] stream).parts) (sym (says_stream f.says)) ∙ w.among)

-- ---- the theorem

pub exact : (s : List ℕ) → ((r : Heard) × IsLine s r) ↔ Writes (said []) s
exact s = (λ x. rw x.1.is at (writable_written x.0 x.1.may), written_writable)

-- where two tell the same, they write the same
same_writes : {f g : List Call → List Said} {s : List ℕ} → ((l : List Call) → f l ≡ g l) → Writes g s → Writes f s
same_writes same w =
    record {
      calls = w.calls;
      connection = w.connection;
      before = w.before;
      after = w.after;
      among = ap (λ (x : List Said). (divided [] (flatten (written_to w.connection w.calls x))).parts) (same w.calls) ∙ w.among;
    }

-- and of the hub, whatever its store holds at first
pub exact_hub : (store : List ℕ) → length store ≡ 1560 → (s : List ℕ) → ((r : Heard) × IsLine s r) ↔ Writes (run fresh_hub store) s
exact_hub store size s = (
  λ x. same_writes (from_fresh store size) ((exact s).0 x),
  λ w. (exact s).1 (same_writes (λ l. sym (from_fresh store size l)) w),
)
