-- Laws of text that is put piece by piece, or over text that stands there already.
use Prim.Native.Nat.{ℕ, suc, ◌+◌, ◌-◌, ◌≤◌}
use mathlib.Core.Path.{◌≡◌, refl, sym, ap, ◌∙◌}
use mathlib.Core.List.{List, [], ◌∷◌, ◌++◌, append-nil, append_assoc}
use native.Mathlib.Omega.{arith}
use native.Mathlib.Nat.{add-zero, zero-add}
use lib.ListN.{length, take, drop, get_or, set, length-append, length-drop, drop_of_length-le}
use lib.Seq.{sets, take-set-le, drop-set-lt, set_at, length-take-le, take_all, take-add, drop-drop}
use Rattle.laws.specs.Put.{over, Put}
use Rattle.laws.proofs.Lists.{drop_next}
use Rattle.laws.proofs.Put.{stores_over, over_length, over_front, put_length, then, nothing}

-- ---- a loop that puts a text piece by piece: what is put, and what is left of it
pub record Putting (before : List ℕ) (at : ℕ) (text left after : List ℕ) (next : ℕ) : Type 0 where
  pub done : List ℕ
  pub put : Put before at done after next
  pub all : done ++ left ≡ text

pub putting_start : (b : List ℕ) (at : ℕ) (text : List ℕ) → at ≤ length b → Putting b at text text b at
putting_start b at text h = record { done = []; put = nothing b at h; all = refl }

module _ {b : List ℕ} {at : ℕ} {text left b₁ : List ℕ} {n : ℕ} (p : Putting b at text left b₁ n) where
  pub putting_length : length b₁ ≡ length b
  putting_length = put_length p.put

  -- a text that has room leaves room for what is left
  pub putting_room : at + length text ≤ length b → n + length left ≤ length b₁
  putting_room h = omega (arith, putting_length, p.put.place, sym (length-append p.done left) ∙ ap length p.all)

  pub putting_end : left ≡ [] → Put b at text b₁ n
  putting_end e =
      let d : p.done ≡ text = sym (append-nil p.done) ∙ ap (λ (l : List ℕ). p.done ++ l) (sym e) ∙ p.all in
      rw d at p.put

  pub putting_more : {piece rest b₂ : List ℕ} {m : ℕ} → left ≡ piece ++ rest → Put b₁ n piece b₂ m → Putting b at text rest b₂ m
  putting_more {piece} {rest} e q =
      record {
        done = p.done ++ piece;
        put = then p.put q;
        all = append_assoc p.done piece rest ∙ ap (λ (l : List ℕ). p.done ++ l) (sym e) ∙ p.all;
      }

-- ---- text that stands where more is put over it
sets_before : (text b : List ℕ) (n at : ℕ) → n ≤ at → take n (sets b at text) ≡ take n b
sets_before [] b n at h = refl
sets_before (x ∷ text) b n at h = sets_before text (set b at x) n (suc at) (omega arith) ∙ take-set-le n b at x h

sets_behind : (text b : List ℕ) (n at : ℕ) → at + length text ≤ n → drop n (sets b at text) ≡ drop n b
sets_behind [] b n at h = refl
sets_behind (x ∷ text) b n at h = sets_behind text (set b at x) n (suc at) (omega arith) ∙ drop-set-lt n b at x (omega arith)

-- all of it is covered
pub covered : (b : List ℕ) (at more : ℕ) (under text : List ℕ) → more + length under ≤ length text → at + length text ≤ length b
    → over (over b (at + more) under) at text ≡ over b at text
unfolding over
covered b at more under text h room =
    let s : over b (at + more) under ≡ sets b (at + more) under = sym (stores_over under b (at + more) (omega arith)) in
    let t : take at (over b (at + more) under) ≡ take at b = ap (take at) s ∙ sets_before under b at (at + more) (omega arith) in
    let d : drop (at + length text) (over b (at + more) under) ≡ drop (at + length text) b =
    ap (drop (at + length text)) s ∙ sets_behind under b (at + length text) (at + more) (omega arith) in
    ap (λ (l : List ℕ). (l ++ text) ++ drop (at + length text) (over b (at + more) under)) t
    ∙ ap (λ (l : List ℕ). (take at b ++ text) ++ l) d

pub put_covered : (b : List ℕ) (at more : ℕ) (under text : List ℕ) {after : List ℕ} {next : ℕ} → more + length under ≤ length text
    → at + more + length under ≤ length b → Put (over b (at + more) under) at text after next → Put b at text after next
put_covered b at more under text h fits p =
    let l = over_length b (at + more) under fits in
    record {
      place = p.place;
      room = omega (arith, p.room, l);
      laid = p.laid ∙ covered b at more under text h (omega (arith, p.place, p.room, l));
    }

-- ---- bytes put around a text that stands where it is to stand: two before it, and another for its last
pub around : (b : List ℕ) (at x : ℕ) (front : List ℕ) (size : ℕ) → size ≡ length front + 1 → at + 2 + size ≤ length b
    → b ≡ over b (at + 2) (front ++ (13 ∷ []))
    → Put b at (x ∷ 32 ∷ (front ++ (10 ∷ []))) (set (set (set b at x) (at + 1) 32) (at + 1 + size) 10) (at + 2 + size)
unfolding over
around b at x front size e room stands =
    let a = take at b in
    let behind = drop (at + 2 + size) b in
    let la : length a ≡ at = length-take-le at b (omega arith) in
    let two : take (at + 2) b ≡ a ++ (get_or b at 0 ∷ get_or b (at + 1) 0 ∷ []) =
    take-add at 2 b ∙ ap (λ (l : List ℕ). a ++ take 2 l) (drop_next b at 0 (omega arith) ∙ ap (λ (l : List ℕ). get_or b at 0 ∷ l) (drop_next b (at + 1) 0 (omega arith))) in
    let n : at + 2 + length (front ++ (13 ∷ [])) ≡ at + 2 + size = omega (arith, length-append front (13 ∷ [])) in
    let e0 : b ≡ a ++ (get_or b at 0 ∷ get_or b (at + 1) 0 ∷ (front ++ (13 ∷ behind))) =
    stands
    ∙ ap (λ (l : List ℕ). (l ++ (front ++ (13 ∷ []))) ++ drop (at + 2 + length (front ++ (13 ∷ []))) b) two
    ∙ ap (λ (k : ℕ). ((a ++ (get_or b at 0 ∷ get_or b (at + 1) 0 ∷ [])) ++ (front ++ (13 ∷ []))) ++ drop k b) n
    ∙ simp append_assoc in
    let e1 : set b at x ≡ (a ++ (x ∷ [])) ++ (get_or b (at + 1) 0 ∷ (front ++ (13 ∷ behind))) =
    ap (λ (l : List ℕ). set l at x) e0 ∙ set_at a _ _ x at la ∙ simp append_assoc in
    let l1 : length (a ++ (x ∷ [])) ≡ at + 1 = rw (length-append, la) in
    let e2 : set (set b at x) (at + 1) 32 ≡ (a ++ (x ∷ 32 ∷ front)) ++ (13 ∷ behind) =
    ap (λ (l : List ℕ). set l (at + 1) 32) e1 ∙ set_at (a ++ (x ∷ [])) _ _ 32 (at + 1) l1 ∙ simp append_assoc in
    let l2 : length (a ++ (x ∷ 32 ∷ front)) ≡ at + 1 + size = rw (length-append, la) (omega arith) in
    let e3 : set (set (set b at x) (at + 1) 32) (at + 1 + size) 10 ≡ (a ++ (x ∷ 32 ∷ front)) ++ (10 ∷ behind) =
    ap (λ (l : List ℕ). set l (at + 1 + size) 10) e2 ∙ set_at (a ++ (x ∷ 32 ∷ front)) _ _ 10 (at + 1 + size) l2 in
    let k : at + 2 + size ≡ at + length (x ∷ 32 ∷ (front ++ (10 ∷ []))) = omega (arith, length-append front (10 ∷ [])) in
    record {
      place = k;
      room = room;
      laid =
          e3
          ∙ (simp append_assoc)
          ∙ sym (append_assoc a (x ∷ 32 ∷ (front ++ (10 ∷ []))) behind)
          ∙ ap (λ (m : ℕ). (a ++ (x ∷ 32 ∷ (front ++ (10 ∷ [])))) ++ drop m b) k;
    }

-- ---- text put at the start of a part that was lent, and the part in its place again
in_part : (b : List ℕ) (from : ℕ) (text : List ℕ) → take from b ++ over (drop from b) 0 text ≡ over b from text
unfolding over
in_part b from text =
    rw (zero-add, drop-drop (length text) from b) (sym (append_assoc (take from b) text (drop (from + length text) b)))

pub lent_back : (b : List ℕ) (from : ℕ) (text : List ℕ)
    → take from b ++ (over (take (length b - from) (drop from b)) 0 text ++ drop (length b - from) (drop from b)) ≡ over b from text
lent_back b from text =
    let n = length b - from in
    let all : length (drop from b) ≤ n = omega (arith, length-drop from b) in
    ap (λ (l : List ℕ). take from b ++ (over l 0 text ++ drop n (drop from b))) (take_all n (drop from b) all)
    ∙ ap (λ (l : List ℕ). take from b ++ (over (drop from b) 0 text ++ l)) (drop_of_length-le (drop from b) all)
    ∙ ap (λ (l : List ℕ). take from b ++ l) (append-nil (over (drop from b) 0 text))
    ∙ in_part b from text

-- it stands there
pub stands : (b : List ℕ) (at : ℕ) (text : List ℕ) → at + length text ≤ length b → over b at text ≡ over (over b at text) at text
stands b at text room = sym (rw add-zero at (covered b at 0 text text (omega arith) room))

-- ---- text written aside, at the start of other memory
pub aside : {b text after : List ℕ} {n : ℕ} → Put b 0 text after n → take n after ≡ text
aside {b} {text} {after} {n} p =
    let e : n ≡ 0 + length text = p.place in
    ap (take n) p.laid ∙ ap (λ (k : ℕ). take k (over b 0 text)) e ∙ over_front b 0 text (omega arith)
