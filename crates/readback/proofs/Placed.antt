-- A request spelled with any address of a machine's numbers is read up to that address, and the hub finds the fault there that the composer finds.
use Prim.Native.Nat.{ℕ, ◌+◌, ◌≤◌, ◌<◌}
use mathlib.Core.Path.{◌≡◌, refl, ap, ◌∙◌}
use mathlib.Core.Bool.{Bool, true, cond, not, ◌&&◌}
use mathlib.Core.List.{List, [], ◌∷◌, ◌++◌, map}
use native.Mathlib.Nat.{zero-add}
use native.Mathlib.Omega.{arith}
use borrow.Author.Tests.{lt-ltb, le-ltb, le-leb, lt-leb, ltb-true, ltb-false, ne_eqb, eqb-true}
use Rattle.std.specs.Prelude.{Some, Ok, Err}
use lib.Dec.{ltb, leb, eqb}
use lib.ListN.{length}
use Rattle.laws.specs.Checks.{between}
use Rattle.laws.specs.Lists.{all, cut, part, free}
use Rattle.laws.proofs.Choice.{by_test, and_left, and_right, and_true, and_false, between_most, between_checks}
use Rattle.laws.proofs.Lists.{all_append, all_weaker}
use Rattle.laws.proofs.Joining.{cut_next, cut_free, all_joined}
use Rattle.words.specs.Digits.{is_digit}
use Rattle.words.specs.Decimal.{decimal}
use Rattle.words.specs.Places.{ports_of}
use Rattle.text.specs.Field.{after_comma}
use Rattle.text.proofs.Decimals.{decimal_digits, decimal_few, decimal_some}
use Rattle.text.proofs.Reading.{digit_range}
use Rattle.meaning.specs.Line.{is_number, within, is_address}
use Rattle.theorems.specs.Spelled.{fields, at}
use Rattle.request.specs.declared.Place.{Place}
use Rattle.request.specs.declared.name.Name.{Name}
use Rattle.request.specs.declared.name.Name.TheVariants.{SetIr, GetIr, SetState, GetState, SendIr, StopIr, SetLamp, GetLamp}
use Rattle.request.specs.declared.name.Word.TheVariants.{Named}
use Rattle.request.specs.Place.{place_of}
use Rattle.request.specs.Name.{name_of, word_at}
use Rattle.request.specs.Address.{beyond, has_module, address_fault}
use Rattle.request.specs.Request.{is_printable, fault, at_address, addressed, read_request}
use Rattle.reads.proofs.Cursor.{counts, counts_within_law, Cursor, start, next, address_is_at}
use Rattle.reads.proofs.Rows.{ports_below}
use Rattle.composer.specs.Fault.{place_fault}
use Rattle.readback.specs.Composed.{Wide, fault_for}
use Rattle.readback.proofs.Counts.{number_back}

-- ---- a decimal of any machine's number
decimal_number : (n : ℕ) → is_number (decimal n) ≡ true
unfolding is_number
decimal_number n = rw (decimal_digits n, lt-ltb 0 (length (decimal n)) (decimal_some n))

module _ (n : ℕ) (w : Wide n) where
  counts_same : n < beyond → counts (decimal n) ≡ n
  counts_same h = rw (le-leb (length (decimal n)) 6 (decimal_few n h), number_back n w)

  counts_between : (least most : ℕ) → most < beyond → between least most (counts (decimal n)) ≡ between least most n
  counts_between least most h =
      by_test (ltb n beyond)
      (λ e. rw (counts_same (ltb-true n beyond e)))
      (λ e. rw (lt-leb n most (omega (arith, ltb-false n beyond e)), and_false)
      (by_test (leb (length (decimal n)) 6)
      (λ f. rw (f, number_back n w, lt-leb n most (omega (arith, ltb-false n beyond e)), and_false))
      (λ f. rw (f, lt-leb beyond most h, and_false))))

  -- it is a number in a range exactly where it is in it
  pub decimal_within : (least most : ℕ) → most < beyond → within least most (decimal n) ≡ between least most n
  decimal_within least most h = counts_within_law least most (decimal n) h (decimal_number n) ∙ counts_between least most h

-- ---- the fault of an address
module _ (a : Place) (m : Wide a.m) (port : Wide a.port) where
  -- as the hub takes the address: a number of over six digits is none of a module or a port
  abbrev taken : Place
  taken = place_of (counts (decimal a.m)) (counts (decimal a.port))

  module _ (n : Name) (least most : ℕ) (range : (j : ℕ) → has_module n j ≡ between least most j) (small : most < beyond) where
    module_same : between least most a.m ≡ true → counts (decimal a.m) ≡ a.m
    module_same e = counts_same a.m m (omega (arith, between_most least most a.m e))

    place_fault_law : address_fault n taken ≡ cond (eqb (place_fault least most a) 0) (Ok tt) (Err (place_fault least most a))
    unfolding address_fault place_fault
    place_fault_law =
        rw (range (counts (decimal a.m)), counts_between a.m m least most small)
        (by_test (between least most a.m)
        (λ e. rw (
          e,
          module_same e,
          between_checks 1 (ports_of a.m) (counts (decimal a.port)),
          counts_between a.port port 1 (ports_of a.m) (ports_below a.m),
        )
        (by_test (between 1 (ports_of a.m) a.port) (λ f. rw f) (λ f. rw f)))
        (λ e. rw e))

    place_same : place_fault least most a ≡ 0 → taken ≡ a
    unfolding place_fault
    place_same =
        by_test (between least most a.m)
        (λ e. rw e
        (by_test (between 1 (ports_of a.m) a.port)
        (λ f z.
        let at-port = counts_same a.port port (omega (arith, between_most 1 (ports_of a.m) a.port f, ports_below a.m)) in
        λ i. record { m = module_same e i; port = at-port i })
        (λ f. rw f (λ z. absurd (omega arith)))))
        (λ e. rw e (λ z. absurd (omega arith)))

-- 002 and 003 name no place
pub place_named : (least most : ℕ) (a : Place) → (place_fault least most a ≡ 0 → ⊥)
    → fault_for (place_fault least most a) a ≡ fault (place_fault least most a)
unfolding place_fault
place_named least most a =
    by_test (between least most a.m)
    (λ e. rw e (by_test (between 1 (ports_of a.m) a.port) (λ f. rw f (λ wrong. absurd (wrong refl))) (λ f. rw f (λ wrong. refl))))
    (λ e. rw e (λ wrong. refl))

-- ---- fields of printable bytes without a comma
abbrev pub fair : ℕ → Bool
fair b = is_printable b && not (eqb b 44)

pub decimal_fair : (n : ℕ) → all fair (decimal n) ≡ true
decimal_fair n =
    all_weaker is_digit fair
    (λ b e.
    let r = digit_range b e in
    rw (le-ltb b 32 (omega arith), le-leb b 126 (omega arith), ne_eqb b 44 (λ z. omega arith))) (decimal n) (decimal_digits n)

pub decimals_fair : (ns : List ℕ) → all (all fair) (map decimal ns) ≡ true
decimals_fair [] = refl
decimals_fair (n ∷ ns) = and_true (all fair (decimal n)) _ (decimal_fair n) (decimals_fair ns)

pub fair_free : (ws : List (List ℕ)) → all (all fair) ws ≡ true → all (free 44) ws ≡ true
fair_free ws e = all_weaker (all fair) (free 44) (all_weaker fair (λ b. not (eqb b 44)) (λ b f. and_right (is_printable b) _ f)) ws e

fair_printable : (ws : List (List ℕ)) → all (all fair) ws ≡ true → all (all is_printable) ws ≡ true
fair_printable ws e = all_weaker (all fair) (all is_printable) (all_weaker fair is_printable (λ b f. and_left (is_printable b) _ f)) ws e

free_cut : (w : List ℕ) (ws : List (List ℕ)) → all (free 44) (w ∷ ws) ≡ true → cut 44 (fields (w ∷ ws)) ≡ w ∷ ws
free_cut w [] e = cut_free 44 w (and_left (free 44 w) _ e)
free_cut w (v ∷ ws) e =
    cut_next 44 w (fields (v ∷ ws)) (and_left (free 44 w) _ e)
    ∙ ap (λ (l : List (List ℕ)). w ∷ l) (free_cut v ws (and_right (free 44 w) _ e))

-- ---- a name, an address and other fields
name_read : (n : Name) (x : List ℕ) → word_at (name_of n ++ (44 ∷ x)) ≡ Some (Named n)
unfolding word_at
name_read SetIr x = refl
name_read GetIr x = refl
name_read SetState x = refl
name_read GetState x = refl
name_read SendIr x = refl
name_read StopIr x = refl
name_read SetLamp x = refl
name_read GetLamp x = refl

name_fair : (n : Name) → all fair (name_of n) ≡ true
name_fair SetIr = refl
name_fair GetIr = refl
name_fair SetState = refl
name_fair GetState = refl
name_fair SendIr = refl
name_fair StopIr = refl
name_fair SetLamp = refl
name_fair GetLamp = refl

abbrev pub address_of : Place → List ℕ
address_of a = at (decimal a.m) (decimal a.port)

digits_free : (n : ℕ) → free 58 (decimal n) ≡ true
digits_free n =
    all_weaker is_digit (λ b. not (eqb b 58)) (λ b e. let r = digit_range b e in rw (ne_eqb b 58 (λ z. omega arith))) (decimal n) (decimal_digits n)

module _ (a : Place) where
  pub address_fair : all fair (address_of a) ≡ true
  address_fair = all_append fair (decimal a.m) (58 ∷ decimal a.port) (decimal_fair a.m) (decimal_fair a.port)

  address_cut : cut 58 (address_of a) ≡ decimal a.m ∷ decimal a.port ∷ []
  address_cut =
      cut_next 58 (decimal a.m) (decimal a.port) (digits_free a.m)
      ∙ ap (λ (l : List (List ℕ)). decimal a.m ∷ l) (cut_free 58 (decimal a.port) (digits_free a.port))

  address_is : is_address (address_of a) ≡ true
  unfolding is_address
  address_is = rw (address_cut, decimal_number a.m, decimal_number a.port)

-- a line of them
pub record Line (s : List ℕ) (n : Name) (a : Place) (rest : List (List ℕ)) : Type 0 where
  pub named : word_at s ≡ Some (Named n)
  pub cuts : cut 44 s ≡ name_of n ∷ address_of a ∷ rest
  pub printable : all is_printable s ≡ true

pub line_of : (n : Name) (a : Place) (rest : List (List ℕ)) → all (all fair) rest ≡ true → Line (fields (name_of n ∷ address_of a ∷ rest)) n a rest
line_of n a rest e =
    let ws = name_of n ∷ address_of a ∷ rest in
    let whole : all (all fair) ws ≡ true = rw (name_fair n, address_fair a, e) in
    record {
      named = name_read n (fields (address_of a ∷ rest));
      cuts = free_cut (name_of n) (address_of a ∷ rest) (fair_free ws whole);
      printable = all_joined 44 is_printable refl ws (fair_printable ws whole);
    }

module _ {s : List ℕ} {n : Name} {a : Place} {rest : List (List ℕ)} (l : Line s n a rest) where
  -- where the address begins and ends
  abbrev begins : ℕ
  begins = after_comma s (length (name_of n))

  pub there : Cursor s 1 begins
  there =
      let name : name_of n ≡ part 44 0 s = rw l.cuts in
      rw (name, ← zero-add (length (part 44 0 s))) (next (start s))

  abbrev pub ends : ℕ
  ends = begins + length (part 44 1 s)

  pub line_read : (least most : ℕ) → ((j : ℕ) → has_module n j ≡ between least most j) → most < beyond → Wide a.m → Wide a.port
      → length s ≤ 4096
      → read_request s ≡ cond (eqb (place_fault least most a) 0) (at_address s n a ends) (fault (place_fault least most a))
  unfolding read_request addressed
  line_read least most range small m port short =
      rw (le-ltb 4096 (length s) short, l.printable, l.named, address_is_at there, l.cuts, address_is a, address_cut a)
      (rw (place_fault_law a m port n least most range small)
      (by_test (eqb (place_fault least most a) 0)
      (λ e. rw e (ap (λ p. at_address s n p (begins + length (address_of a))) (place_same a m port n least most range small (eqb-true _ 0 e))))
      (λ e. rw e)))
