-- What a command says that was read, and what the answer says of the reading.
use Prim.Native.Nat.{ℕ, ◌*◌, ◌≤◌, ◌<◌}
use mathlib.Core.Path.{◌≡◌, refl, sym, ap, ◌∙◌, subst}
use mathlib.Core.Bool.{true, false}
use mathlib.Core.List.{List, []}
use borrow.Author.Tests.{lt-ltb, le-ltb, ltb-true}
use lib.ListN.{length}
use Rattle.std.proofs.Common.{Result, Ok, Err}
use Rattle.laws.proofs.Choice.{cond_case, clash}
use Rattle.laws.proofs.Storing.{stores_stored}
use Rattle.words.specs.declared.Pair.{Pair}
use Rattle.words.specs.declared.Fields.{Fields}
use Rattle.words.specs.Pairs.{counts_in}
use Rattle.code.specs.declared.Code.{Code}
use Rattle.code.specs.declared.Code.TheVariants as code
use Rattle.code.specs.Limits.{offset_within}
use Rattle.code.specs.Read.{Reading, pairs, fault, read_code, found, ReadInto}
use Rattle.code.proofs.Accepted.{accepted}
use Rattle.code.proofs.Answers.{read_pairs, read_fault}
use Rattle.command.specs.Fields.{ReadWithin, fields_at}
use Rattle.command.specs.Read.{CommandReading, sent, faulty, code_read, code_at, fields_read, command_at, command_of, found_in, CommandInto, Accepts}
use Rattle.command.proofs.Accepted.{fields_within}

-- ---- what an answer says of the reading
pub fault_read : (r : CommandReading) {n : ℕ} → Err n ≡ command_of r → r ≡ faulty n (found_in r)
fault_read (sent f ps) e = clash (cc)
fault_read (faulty number found) e = cc

pub sent_read : (r : CommandReading) {f : Fields} {n : ℕ} → Ok (f, n) ≡ command_of r → (r ≡ sent f (found_in r)) × (n ≡ length (found_in r))
sent_read (sent g ps) {f} {n} e =
    let same : (f, n) ≡ (g, length ps) = cc in
    (ap (λ (x : Fields × ℕ). sent x.0 ps) (sym same), ap (λ (x : Fields × ℕ). x.1) same)
sent_read (faulty number found) e = clash (cc)

-- ---- the answer of code_at, by what was read
module _ (f : Fields) (s : List ℕ) (at : ℕ) {before after : List ℕ} {x : Code} (r : ReadInto (read_code f.freq s at) before x after) {n : ℕ} where
  -- so many pairs are 1 to 260
  pub count_most : x ≡ code.Pairs n → n ≤ 260
  count_most q =
      let e = read_pairs (read_code f.freq s at) (sym r.result ∙ q) in
      subst (λ (m : ℕ). m ≤ 260) e.1 (accepted f.freq s at _ e.0).most

  pub code_sent : x ≡ code.Pairs n → f.offset < 2 * n
      → CommandInto (code_at f s at) before (Ok (f, n)) after
  unfolding code_at
  code_sent q h =
      let e = read_pairs (read_code f.freq s at) (sym r.result ∙ q) in
      let ps = found (read_code f.freq s at) in
      let within : offset_within f.offset (length ps) ≡ true = rw e.1 (lt-ltb f.offset (2 * n) h) in
      let is : code_read f (read_code f.freq s at) ≡ sent f ps = ap (code_read f) e.0 ∙ rw within in
      record { result = rw (is, e.1); kept = rw is r.kept; front = rw is r.front }

  pub code_beyond : x ≡ code.Pairs n → 2 * n ≤ f.offset
      → CommandInto (code_at f s at) before (Err 7) after
  unfolding code_at
  code_beyond q h =
      let e = read_pairs (read_code f.freq s at) (sym r.result ∙ q) in
      let ps = found (read_code f.freq s at) in
      let beyond : offset_within f.offset (length ps) ≡ false = rw e.1 (le-ltb f.offset (2 * n) h) in
      let is : code_read f (read_code f.freq s at) ≡ faulty 7 ps = ap (code_read f) e.0 ∙ rw beyond in
      record { result = rw is; kept = rw is r.kept; front = rw is r.front }

  pub code_fault_law : x ≡ code.Fault n → CommandInto (code_at f s at) before (Err n) after
  unfolding code_at
  code_fault_law q =
      let e = read_fault (read_code f.freq s at) (sym r.result ∙ q) in
      let is : code_read f (read_code f.freq s at) ≡ faulty n (found (read_code f.freq s at)) = ap (code_read f) e in
      record { result = rw is; kept = rw is r.kept; front = rw is r.front }

-- ---- where the fields are faulty nothing is found
pub nothing_found : (number : ℕ) (before : List ℕ) → CommandInto (faulty number []) before (Err number) before
unfolding counts_in
nothing_found number before = record { result = refl; kept = stores_stored before 0 []; front = refl }

-- ---- what is accepted
abbrev CommandWithin : CommandReading → Type 0
CommandWithin (sent f ps) = Accepts f ps
CommandWithin (faulty number ps) = Unit {0}

code_within : (f : Fields) (s : List ℕ) (at : ℕ) → ReadWithin (Ok (f, at)) → CommandWithin (code_at f s at)
unfolding code_at
code_within f s at w = go (read_code f.freq s at) refl
  where
    go : (x : Reading) → read_code f.freq s at ≡ x → CommandWithin (code_read f x)
    go (pairs ps) e =
        cond_case CommandWithin (offset_within f.offset (length ps)) (sent f ps) (faulty 7 ps)
        (λ h. record { fields = w; code = accepted f.freq s at ps e; offset = ltb-true f.offset (2 * length ps) h }) (λ h. tt)
    go (fault number ps) e = tt

every_command : (s : List ℕ) (at : ℕ) → CommandWithin (command_at s at)
unfolding command_at
every_command s at = go (fields_at s at) (fields_within s at)
  where
    go : (x : Result (Fields × ℕ) ℕ) → ReadWithin x → CommandWithin (fields_read s x)
    go (Err number) w = tt
    go (Ok (f, next)) w = code_within f s next w

pub command_within : (s : List ℕ) (at : ℕ) (f : Fields) (ps : List Pair) → command_at s at ≡ sent f ps → Accepts f ps
command_within s at f ps e = subst CommandWithin e (every_command s at)
