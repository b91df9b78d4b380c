-- A command that is taken is within the limits, and its fields and pairs are those that were given.
use Prim.Native.Nat.{ℕ, ◌*◌, ◌<◌}
use mathlib.Core.Path.{◌≡◌, refl, sym, subst}
use mathlib.Core.Bool.{true, not}
use mathlib.Core.List.{List, [], ◌∷◌}
use native.Mathlib.Omega.{arith}
use borrow.Author.Tests.{ltb-false, leb-true, leb-false, eqb-true, not-false}
use lib.Dec.{ltb, leb, eqb}
use lib.ListN.{length}
use Rattle.laws.specs.Lists.{all}
use Rattle.laws.proofs.Choice.{cond_case, clash, guard, and_left, and_right, and_true}
use Rattle.words.specs.declared.Pair.{Pair}
use Rattle.words.specs.declared.Fields.{Fields}
use Rattle.words.specs.Pairs.{pairs_of}
use Rattle.words.specs.Places.{connectors}
use Rattle.code.specs.Limits.{legal, legal_pair}
use Rattle.code.specs.Accepted.{Accepted}
use Rattle.request.specs.declared.Place.{Place}
use Rattle.request.specs.Accepted.{ConnectorAt}
use Rattle.command.specs.declared.given.Command.{Command}
use Rattle.command.specs.Fields.{FieldsWithin}
use Rattle.command.specs.Read.{CommandReading, sent, Accepts}
use Rattle.command.specs.Given.{place_within, given_within, counts_within, taken_as, command_given}
use Rattle.command.proofs.Giving.{fields_in, CountsIn, counts_in_law, pairs_length}
use Rattle.writer.specs.Sendir.{Small}

-- ---- the place
place_in : {place : Place} → place_within place ≡ true → ConnectorAt place
unfolding place_within
place_in {place} e =
    let a = guard (not (eqb place.m 1)) _ e in
    let b = guard (ltb place.port 1) _ a.1 in
    record {
      infrared = eqb-true place.m 1 (not-false (eqb place.m 1) a.0);
      least = ltb-false place.port 1 b.0;
      most = leb-true place.port connectors b.1;
    }

-- numbers within the limits have at most six digits
pub small : {place : Place} {f : Fields} → ConnectorAt place → FieldsWithin f → Small place.port f
small a b =
    record {
      port_small = omega (arith, a.most);
      id_small = omega (arith, b.id_most);
      freq_small = omega (arith, b.freq_most);
      repeat_small = omega (arith, b.repeat_most);
      offset_small = omega (arith, b.offset_most);
    }

-- ---- the counts
pairs_legal : (freq : ℕ) (given : List ℕ) → all (legal freq) given ≡ true → all (legal_pair freq) (pairs_of given) ≡ true
pairs_legal freq [] e = refl
pairs_legal freq (a ∷ []) e = refl
pairs_legal freq (a ∷ b ∷ l) e =
    let r = and_right (legal freq a) _ e in
    and_true _ _ (and_true _ _ (and_left (legal freq a) _ e) (and_left (legal freq b) _ r)) (pairs_legal freq l (and_right (legal freq b) _ r))

-- counts within the limits are pairs that a reader accepts
given_accepted : {freq : ℕ} {given : List ℕ} → CountsIn freq given → Accepted freq (pairs_of given)
given_accepted {freq} {given} c =
    let two = pairs_length given c.even in
    record { some = omega (arith, c.some); most = omega (arith, c.most); allowed = pairs_legal freq given c.allowed }

-- ---- the command
pub record Taken (c : Command) (given : List ℕ) (f : Fields) (ps : List Pair) : Type 0 where
  pub place : ConnectorAt c.place
  pub accepts : Accepts f ps
  pub fields : f ≡ taken_as c.fields
  pub pairs : ps ≡ pairs_of given

-- a command that is sent was taken: every other is 106
pub given_taken : (c : Command) (given : List ℕ) (f : Fields) (ps : List Pair) → command_given c given ≡ sent f ps → Taken c given f ps
unfolding command_given
given_taken c given f ps =
    let P : CommandReading → Type 0 = λ r. r ≡ sent f ps → Taken c given f ps in
    cond_case P (not (place_within c.place)) _ _ (λ _ z. clash (cc)) λ a.
    cond_case P (not (given_within c.fields)) _ _ (λ _ z. clash (cc)) λ b.
    cond_case P (not (counts_within c.fields.freq given)) _ _ (λ _ z. clash (cc)) λ k.
    cond_case P (leb (length given) c.fields.offset) _ _ (λ _ z. clash (cc)) λ o z.
    let fields : taken_as c.fields ≡ f = cc in
    let pairs : pairs_of given ≡ ps = cc in
    let counts = counts_in_law c.fields.freq given (not-false _ k) in
    let two = pairs_length given counts.even in
    let inside : c.fields.offset < 2 * length (pairs_of given) = omega (arith, leb-false (length given) c.fields.offset o) in
    let accepts : Accepts (taken_as c.fields) (pairs_of given) =
    record { fields = fields_in c.fields (not-false _ b); code = given_accepted counts; offset = inside } in
    record {
      place = place_in (not-false _ a);
      accepts = subst (Accepts f) pairs (subst (λ (g : Fields). Accepts g (pairs_of given)) fields accepts);
      fields = sym fields;
      pairs = sym pairs;
    }
