-- Commands to a connector, over any log: each sentence of document 01's "Time on a connector" on commands is one theorem.
use Prim.Native.Nat.{ℕ, ◌≤◌}
use mathlib.Core.Path.{◌≡◌, refl, sym, ap, ◌∙◌}
use mathlib.Core.Bool.{true, false, ◌&&◌, or-true}
use mathlib.Core.List.{List, [], ◌∷◌, ◌++◌}
use mathlib.Core.Option.{Option, none, some}
use lib.Dec.{eqb}
use borrow.Author.Tests.{eq-eqb, eqb-true, eqb-false, ne_eqb}
use Rattle.laws.specs.Bytes.{bytes}
use Rattle.laws.specs.Lists.{same}
use Rattle.laws.proofs.Choice.{by_test, and_left, and_right}
use Rattle.laws.proofs.Lists.{same_is, same_self}
use Rattle.words.specs.Decimal.{decimal}
use Rattle.words.specs.Places.{connectors}
use Rattle.words.specs.declared.Pair.{Pair}
use Rattle.words.specs.declared.Fields.{Fields}
use Rattle.words.specs.Digits.{Spells}
use Rattle.meaning.specs.Line as text
use Rattle.meaning.specs.Line.{addressed}
use Rattle.words.specs.Pairs.{counts_of}
use Rattle.meaning.specs.Time.{Transmission}
use Rattle.meaning.specs.Time as time
use Rattle.meaning.specs.Log.{Deed, setting, event, changed, renewed, halted, mode_of, contact_of, last_of, owner_of, on_air}
use Rattle.meaning.specs.Table.{Call, line, Judged, error, does, taken, replied, deeds_of, reply, answer_of, is_same, judge, logged}
use Rattle.theorems.proofs.Times.{on_air_is}
use Rattle.theorems.specs.Deeds.{ModeWord, in_sensor, in_lighting, silent}
use Rattle.theorems.specs.Spelled.{setting_text, fields, at, Heard, IsSendir, mode_set, starts, commanded, told_of, stopped}
use Rattle.theorems.specs.Commands.{Starts, Renews, Busy, Tells, another, idle, ownerless, itself, Stops}
use Rattle.theorems.proofs.Spelled.{sendir_judged, set_ir_spelled, stopir_spelled}

-- ---- equal commands: "equal id, freq, capped repeat, offset and pairs"
pub counts_same : (ps qs : List Pair) → counts_of ps ≡ counts_of qs → ps ≡ qs
counts_same [] [] e = refl
counts_same [] (q ∷ qs) e = cc
counts_same (p ∷ ps) [] e = cc
counts_same (p ∷ ps) (q ∷ qs) e =
    let on : p.on ≡ q.on = cc in
    let off : p.off ≡ q.off = cc in
    let pair : p ≡ q = λ i. record { on = on i; off = off i } in
    let rest : ps ≡ qs = counts_same ps qs (cc) in
    cc

-- a command counts as equal exactly where every field and every pair is
pub same_command_law : (f : Fields) (ps : List Pair) (s : Transmission) → is_same f ps s ≡ true → (s.fields ≡ f) × (s.pairs ≡ ps)
same_command_law f ps s e =
    let g = s.fields in
    let one = eqb g.id f.id in
    let two = one && eqb g.freq f.freq in
    let three = two && eqb g.repeat f.repeat in
    let four = three && eqb g.offset f.offset in
    let e₄ = and_left four _ e in
    let e₃ = and_left three _ e₄ in
    let e₂ = and_left two _ e₃ in
    let id = eqb-true g.id f.id (and_left one _ e₂) in
    let freq = eqb-true g.freq f.freq (and_right one _ e₂) in
    let repeat = eqb-true g.repeat f.repeat (and_right two _ e₃) in
    let offset = eqb-true g.offset f.offset (and_right three _ e₄) in
    let counts = same_is (counts_of ps) (counts_of s.pairs) (and_right four _ e) in
    (λ i. record { id = id i; freq = freq i; repeat = repeat i; offset = offset i }, sym (counts_same ps s.pairs counts))

pub same_refl : (f : Fields) (ps : List Pair) (s : Transmission) → s.fields ≡ f → s.pairs ≡ ps → is_same f ps s ≡ true
same_refl f ps s e g =
    rw (
      eq-eqb s.fields.id f.id (ap (λ (x : Fields). x.id) e),
      eq-eqb s.fields.freq f.freq (ap (λ (x : Fields). x.freq) e),
      eq-eqb s.fields.repeat f.repeat (ap (λ (x : Fields). x.repeat) e),
      eq-eqb s.fields.offset f.offset (ap (λ (x : Fields). x.offset) e),
      g,
      same_self (counts_of ps),
    )

-- ---- what a deed leaves behind
module _ (log : List Deed) (call : Call) (connection p : ℕ) (f : Fields) (ps : List Pair) where
  started_so : judge log call ≡ starts connection p f ps → Starts log call connection p f ps
  started_so j =
      record {
        judged = j;
        owner = ap (λ (x : Judged). owner_of p (deeds_of x ++ log)) j ∙ rw (eq-eqb p p refl);
        last = ap (λ (x : Judged). last_of p (deeds_of x ++ log)) j ∙ rw (eq-eqb p p refl);
      }

  renewed_so : (t : Transmission) → judge log call ≡ does (taken []) (event (renewed p) ∷ []) → owner_of p log ≡ some connection
      → last_of p log ≡ some t → t.fields ≡ f → t.pairs ≡ ps → Renews log call connection p f ps t
  unfolding time.renewed
  renewed_so t j o l ef ep =
      record {
        judged = j;
        owner = ap (λ (x : Judged). owner_of p (deeds_of x ++ log)) j ∙ o;
        last = ap (λ (x : Judged). last_of p (deeds_of x ++ log)) j ∙ rw (eq-eqb p p refl, l, ef, ep);
      }

busy_so : (log : List Deed) (call : Call) (p id : ℕ) → judge log call ≡ reply (text.line "busyIR," 1 p (decimal id)) [] → Busy log call p id
busy_so log call p id j = record { judged = j; unchanged = ap (λ (x : Judged). deeds_of x ++ log) j }

-- ---- a sendir without a fault, to a connector that is not silent
module _ (log : List Deed) (connection room : ℕ) (s : List ℕ) (p : ℕ) (f : Fields) (ps : List Pair) (h : Heard connection room)
    (x : IsSendir s p f ps) (mode : silent p log ≡ false) where
  judged : judge log (line connection room s) ≡ commanded log connection p f ps
  judged = sendir_judged log connection room s p f ps h x

  -- "sendir to an idle connector starts with the sender as owner."
  pub idle_starts : on_air p log ≡ none → Starts log (line connection room s) connection p f ps
  idle_starts off =
      let c : commanded log connection p f ps ≡ starts connection p f ps = rw (mode, off) in
      started_so log (line connection room s) connection p f ps (judged ∙ c)

  module _ (t : Transmission) (air : on_air p log ≡ some t) where
    -- "From the owner, with equal id, freq, capped repeat, offset and pairs (plain or lettered alike): the transmission is renewed."
    pub owner_renews : owner_of p log ≡ some connection → t.fields ≡ f → t.pairs ≡ ps → Renews log (line connection room s) connection p f ps t
    owner_renews o ef ep =
        let c : commanded log connection p f ps ≡ does (taken []) (event (renewed p) ∷ []) =
        rw (mode, air, o, eq-eqb connection connection refl, same_refl f ps t ef ep) in
        renewed_so log (line connection room s) connection p f ps t (judged ∙ c) o (on_air_is p log t air).0 ef ep

    -- "From the owner with any other field: the old one is dropped without a notice and the new one starts."
    pub owner_starts_anew : owner_of p log ≡ some connection → (t.fields ≡ f → t.pairs ≡ ps → ⊥) → Starts log (line connection room s) connection p f ps
    owner_starts_anew o differs =
        let other : is_same f ps t ≡ false =
        by_test (is_same f ps t) (λ e. let g = same_command_law f ps t e in absurd (differs g.0 g.1)) (λ e. e) in
        let c : commanded log connection p f ps ≡ starts connection p f ps =
        rw (mode, air, o, eq-eqb connection connection refl, other) in
        started_so log (line connection room s) connection p f ps (judged ∙ c)

    -- "From another connection, or if there is no owner: busyIR with the refused line's id, hub unchanged."
    pub others_busy : (other : ℕ) → owner_of p log ≡ some other → (other ≡ connection → ⊥) → Busy log (line connection room s) p f.id
    others_busy other o differs =
        let c : commanded log connection p f ps ≡ reply (text.line "busyIR," 1 p (decimal f.id)) [] =
        rw (mode, air, o, ne_eqb other connection differs) in
        busy_so log (line connection room s) p f.id (judged ∙ c)

    pub ownerless_busy : owner_of p log ≡ none → Busy log (line connection room s) p f.id
    ownerless_busy o =
        let c : commanded log connection p f ps ≡ reply (text.line "busyIR," 1 p (decimal f.id)) [] = rw (mode, air, o) in
        busy_so log (line connection room s) p f.id (judged ∙ c)

-- "sendir .. to a connector in SENSOR": 013, and by request 3 of document 02 "sendir and stopir there get 013"
pub silent_refuses : (log : List Deed) (connection room : ℕ) (s : List ℕ) (p : ℕ) (f : Fields) (ps : List Pair) → Heard connection room
    → IsSendir s p f ps → silent p log ≡ true → judge log (line connection room s) ≡ error 13 1 p
silent_refuses log connection room s p f ps h x mode =
    let c : commanded log connection p f ps ≡ error 13 1 p = rw mode in
    sendir_judged log connection room s p f ps h x ∙ c

-- in SENSOR
pub sensor_refuses : (log : List Deed) (connection room : ℕ) (s : List ℕ) (p : ℕ) (f : Fields) (ps : List Pair) → Heard connection room
    → IsSendir s p f ps → in_sensor p log ≡ true → judge log (line connection room s) ≡ error 13 1 p
sensor_refuses log connection room s p f ps h x mode = silent_refuses log connection room s p f ps h x (rw mode)

-- and in LED_LIGHTING
pub lamp_refuses : (log : List Deed) (connection room : ℕ) (s : List ℕ) (p : ℕ) (f : Fields) (ps : List Pair) → Heard connection room
    → IsSendir s p f ps → in_lighting p log ≡ true → judge log (line connection room s) ≡ error 13 1 p
lamp_refuses log connection room s p f ps h x mode = silent_refuses log connection room s p f ps h x (rw (mode, or-true (in_sensor p log)))

-- ---- stopir
module _ (log : List Deed) (connection p : ℕ) where
  told_by : (o : Option ℕ) → owner_of p log ≡ o → (x : Option Transmission) → on_air p log ≡ x → Tells log connection p (told_of log connection p)
  told_by o e none f = rw f (idle f)
  told_by none e (some t) f = rw (f, e) (ownerless e)
  told_by (some other) e (some t) f =
      by_test (eqb other connection)
      (λ g. rw (f, e, g) (itself (e ∙ ap some (eqb-true other connection g))))
      (λ g. rw (f, e, g) (another f e (eqb-false other connection g)))

-- "stopir .. 013": to a connector that is not silent it is always done
pub stop_tells : (log : List Deed) (connection room : ℕ) {dm dp : List ℕ} {p : ℕ} → Heard connection room → Spells dm 1 → Spells dp p
    → 1 ≤ p → p ≤ connectors → silent p log ≡ false
    → Stops log (line connection room (fields (bytes "stopir" ∷ at dm dp ∷ []))) connection p
unfolding on_air
stop_tells log connection room {dm} {dp} {p} h one port least most mode =
    let c : stopped log connection p
    ≡ does (replied (addressed "stopir," 1 p ++ bytes "\r") (told_of log connection p)) (event (halted p) ∷ []) = rw mode in
    let j = stopir_spelled log connection room h port least most one ∙ c in
    record {
      owner = told_of log connection p;
      told = told_by log connection p (owner_of p log) refl (on_air p log) refl;
      answer = ap answer_of j;
      halts = ap (λ (x : Judged). on_air p (deeds_of x ++ log)) j ∙ rw (eq-eqb p p refl);
      owned = ap (λ (x : Judged). owner_of p (deeds_of x ++ log)) j ∙ rw (eq-eqb p p refl);
    }

-- "sendir and stopir there get 013"
pub silent_stop_refused : (log : List Deed) (connection room : ℕ) {dm dp : List ℕ} {p : ℕ} → Heard connection room → Spells dm 1 → Spells dp p
    → 1 ≤ p → p ≤ connectors → silent p log ≡ true
    → judge log (line connection room (fields (bytes "stopir" ∷ at dm dp ∷ []))) ≡ error 13 1 p
silent_stop_refused log connection room {p = p} h one port least most mode =
    let c : stopped log connection p ≡ error 13 1 p = rw mode in
    stopir_spelled log connection room h port least most one ∙ c

-- ---- set_IR
module _ (log : List Deed) (connection room : ℕ) {dm dp mode : List ℕ} {p : ℕ} (h : Heard connection room) (one : Spells dm 1)
    (port : Spells dp p) (least : 1 ≤ p) (most : p ≤ connectors) (word : ModeWord p mode) where
  set_judged : judge log (line connection room (setting_text dm dp mode)) ≡ mode_set log p mode
  set_judged = set_ir_spelled log connection room h port least most one word

  -- 029 "set_IR while that connector transmits", in whatever mode and whoever owns it
  pub busy_mode : (t : Transmission) → on_air p log ≡ some t → judge log (line connection room (setting_text dm dp mode)) ≡ error 29 1 p
  busy_mode t air = let c : mode_set log p mode ≡ error 29 1 p = rw air in set_judged ∙ c

  -- "the present mode again changes nothing"
  pub mode_again : on_air p log ≡ none → mode_of p log ≡ mode → judge log (line connection room (setting_text dm dp mode)) ≡ reply (text.line "IR," 1 p mode) []
  mode_again off present =
      let c : mode_set log p mode ≡ reply (text.line "IR," 1 p mode) [] = rw (off, present, same_self mode) in
      set_judged ∙ c

  -- "a change of mode makes the contact unread"
  pub mode_unread : on_air p log ≡ none → (mode_of p log ≡ mode → ⊥)
      → (mode_of p (logged log (line connection room (setting_text dm dp mode))) ≡ mode) × (contact_of p (logged log (line connection room (setting_text dm dp mode))) ≡ none)
  mode_unread off differs =
      let other : same (mode_of p log) mode ≡ false =
      by_test (same (mode_of p log) mode) (λ e. absurd (differs (same_is (mode_of p log) mode e))) (λ e. e) in
      let c : mode_set log p mode ≡ reply (text.line "IR," 1 p mode) (setting p (changed mode) ∷ []) = rw (off, other) in
      let j = set_judged ∙ c in (
        ap (λ (x : Judged). mode_of p (deeds_of x ++ log)) j ∙ rw (eq-eqb p p refl),
        ap (λ (x : Judged). contact_of p (deeds_of x ++ log)) j ∙ rw (eq-eqb p p refl),
      )
