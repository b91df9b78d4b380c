-- From contact to file: what a logger hears of all that is written to its connection is what was said, one for one and in order, and a
-- contact's 0 or 1 among it was the contact's last reading when it was asked for.
use Prim.Native.Nat.{ℕ, ◌≤◌}
use mathlib.Core.Path.{◌≡◌, refl, sym, ap, ◌∙◌}
use mathlib.Core.Bool.{true, cond, ◌||◌}
use mathlib.Core.List.{List, [], ◌∷◌, ◌++◌, map, flatten, append_assoc}
use mathlib.Core.Option.{Option}
use mathlib.Core.Option as option
use borrow.Author.Tests.{eqb-true, eq-eqb, leb-true}
use lib.Dec.{leb}
use lib.ListN.{length}
use Rattle.laws.specs.Bytes.{bytes}
use Rattle.laws.specs.Checks.{first, between}
use Rattle.laws.specs.Lists.{all}
use Rattle.laws.proofs.Checks.{first_all}
use Rattle.laws.proofs.Choice.{by_test, not_both, and_left, and_right}
use Rattle.words.specs.Decimal.{decimal}
use Rattle.words.specs.Places.{connectors}
use Rattle.meaning.specs.Line as text
use Rattle.meaning.specs.Log.{is_owner}
use Rattle.meaning.specs.Table.{Completion, Answer, refused, taken, replied, answer_of, Call, line, overlong, reading, closing, waiting, Said, row_of, judge, log_of, said}
use Rattle.theorems.specs.Deeds.{Port}
use Rattle.theorems.specs.Contacts.{AsksState, LastReading}
use Rattle.theorems.proofs.Asked as asked
use Rattle.theorems.proofs.Asked.{others, state_is_asked_for}
use Rattle.theorems.proofs.Contacts.{state_is_last_reading, state_told_to_asker, reading_is_from_a_call}
use Rattle.request.specs.declared.Place.{Place}
use Rattle.request.specs.Place.{place_of}
use Rattle.lines.specs.Cut.{Line, whole, lines_of}
use Rattle.lines.specs.Take.{fresh_assembler}
use Rattle.lines.specs.Feed.{feed}
use Rattle.lines.proofs.Feeding.{feed_is_lines}
use Rattle.hub.specs.Record.{fresh_hub}
use Rattle.history.specs.Run.{run}
use Rattle.history.proofs.Following.{from_fresh}
use Rattle.logger.specs.declared.Device.TheVariants.{Ethernet, Infrared, Relays, End}
use Rattle.logger.specs.declared.Heard.{Heard}
use Rattle.logger.specs.declared.Heard.TheVariants.{NotReply, State, Complete, Busy, Stop, Mode, Error, Version, Listed, Lamp}
use Rattle.logger.specs.Heard.{line_of, writable, is_connector, is_relay}
use Rattle.logger.specs.Tally.{same_place}
use Rattle.hearing.proofs.Back.{one_heard, heard_line}
use Rattle.logger.proofs.Plain.{lines_spoken}
use Rattle.logger.proofs.Tallies.{same_place_is}
use Rattle.logged.specs.Written.{asker, for_one, notices_to, written_by, written_to}
use Rattle.logged.specs.Filed.{Says, silent, speaks, states_of, Readings, over, told, other, Heards, ended, reads, Filed}
use Rattle.logged.proofs.Said.{Speaks, alone, devices, Notices, none, more, AnswerSpeaks, with_last, answer_speaks}
use Rattle.logged.proofs.Texts.{says_stream, says_writable, says_append}

states_append : (place : Place) (x y : List Heard) → states_of place (x ++ y) ≡ states_of place x ++ states_of place y
states_append place [] y = refl
states_append place (r ∷ x) y = rw (states_append place x y, append_assoc)

-- ---- one text, if it is for a connection
abbrev replies_in : {words : List ℕ} → Speaks words → List Heard
replies_in (alone r may) = r ∷ []
replies_in devices = Listed Ethernet ∷ Listed Infrared ∷ Listed Relays ∷ Listed End ∷ []

one_says : {words : List ℕ} (x : Speaks words) → Says (words ∷ []) (replies_in x)
unfolding line_of writable
one_says (alone r may) = speaks (line_of r ++ (13 ∷ [])) (r ∷ []) (rw may) refl silent
one_says devices = speaks _ (replies_in devices) refl refl silent

abbrev heard_by : ℕ → Option ℕ → List Heard → List Heard
heard_by connection whom rs = cond (is_owner connection whom) rs []

for_one_says : (connection : ℕ) (whom : Option ℕ) {words : List ℕ} (x : Speaks words)
    → Says (for_one connection whom words) (heard_by connection whom (replies_in x))
for_one_says connection whom x = by_test (is_owner connection whom) (λ e. rw e (one_says x)) (λ e. rw e silent)

-- nothing is heard of a place in what tells nothing of it
unheard : (connection : ℕ) (whom : Option ℕ) (place : Place) (rs : List Heard) → states_of place rs ≡ [] → states_of place (heard_by connection whom rs) ≡ []
unheard connection whom place rs e = by_test (is_owner connection whom) (λ o. rw (o, e)) (λ o. rw o)

-- ---- one call
data Told (h : List Call) (call : Call) (connection p : ℕ) : List ℕ → Type 0 where
  nothing : Told h call connection p []
  reading_of_law : (room : ℕ) (s : List ℕ) (v : ℕ) → call ≡ line connection room s → AsksState 1 p connection room s
      → answer_of (judge (log_of h) call) ≡ replied (text.line "state," 1 p (decimal v)) option.none → LastReading h p v
      → Told h call connection p (v ∷ [])

record CallFiled (h : List Call) (call : Call) (connection : ℕ) (texts : List (List ℕ)) : Type 0 where
  heard : List Heard
  says : Says texts heard
  contacts : (p : ℕ) → Told h call connection p (states_of (place_of 1 p) heard)

-- nothing of a contact
quiet : {h : List Call} {call : Call} {connection p : ℕ} {vs : List ℕ} → vs ≡ [] → Told h call connection p vs
quiet e = rw e nothing

-- a state is told by no overlong line
overlong_silent : {A : Type 0} (h : List Call) (connection room p v : ℕ)
    → answer_of (judge (log_of h) (overlong connection room)) ≡ replied (text.line "state," 1 p (decimal v)) option.none → A
unfolding decimal
overlong_silent h connection room p v e =
    let r = row_of (log_of h) (overlong connection room) in
    others (bytes "state,1") _ option.none (first r.checks r.otherwise) refl
    (first_all (asked.other (bytes "state,1")) r.checks r.otherwise refl) e

module _ (h : List Call) (connection : ℕ) where
  -- the line of the connection itself
  by_asker : (p v : ℕ) → Port connectors p → v ≤ 1 → (call : Call) → is_owner connection (asker call) ≡ true
      → answer_of (judge (log_of h) call) ≡ replied (text.line "state," 1 p (decimal v)) option.none → LastReading h p v
      → Told h call connection p (v ∷ [])
  by_asker p v port small (line c room s) o e l =
      let is = eqb-true c connection o in
      reading_of_law room s v (rw is) (rw is at (state_is_asked_for (log_of h) p v option.none port small c room s e)) e l
  by_asker p v port small (overlong c room) o e l = overlong_silent h c room p v e
  by_asker p v port small (reading q value) o e l = not_both o refl
  by_asker p v port small (closing c) o e l = not_both o refl
  by_asker p v port small (waiting n) o e l = not_both o refl

  module _ (call : Call) where
    both_quiet : (p : ℕ) (rs : List Heard) (also : Option ℕ) → states_of (place_of 1 p) rs ≡ []
        → Told h call connection p (states_of (place_of 1 p) (heard_by connection (asker call) rs ++ heard_by connection also rs))
    both_quiet p rs also e =
        quiet
        (states_append (place_of 1 p) (heard_by connection (asker call) rs) (heard_by connection also rs)
        ∙ rw (unheard connection (asker call) (place_of 1 p) rs e, unheard connection also (place_of 1 p) rs e))

    -- a text that tells no state of a contact
    quiet_filed : {words : List ℕ} (x : Speaks words) (also : Option ℕ) → ((p : ℕ) → states_of (place_of 1 p) (replies_in x) ≡ [])
        → CallFiled h call connection (for_one connection (asker call) words ++ for_one connection also words)
    quiet_filed x also none_told =
        record {
          heard = heard_by connection (asker call) (replies_in x) ++ heard_by connection also (replies_in x);
          says = says_append (for_one_says connection (asker call) x) (for_one_says connection also x);
          contacts = λ p. both_quiet p (replies_in x) also (none_told p);
        }

    -- a state that is heard of a contact
    state_told : (p v : ℕ) (also : Option ℕ) → writable (State (place_of 1 p) v) ≡ true
        → answer_of (judge (log_of h) call) ≡ replied (text.line "state," 1 p (decimal v)) also
        → Told h call connection p (states_of (place_of 1 p)
        (heard_by connection (asker call) (State (place_of 1 p) v ∷ []) ++ heard_by connection also (State (place_of 1 p) v ∷ [])))
    unfolding writable
    state_told p v also may e =
        let small = leb-true v 1 (and_left (leb v 1) (is_relay (place_of 1 p) || is_connector (place_of 1 p)) may) in
        let port : between 1 connectors p ≡ true = and_right (leb v 1) (is_relay (place_of 1 p) || is_connector (place_of 1 p)) may in
        let is : Port connectors p =
        record {
          least = leb-true 1 p (and_left (leb 1 p) (leb p connectors) port);
          most = leb-true p connectors (and_right (leb 1 p) (leb p connectors) port);
        } in
        let nobody = state_told_to_asker (log_of h) p v also is small call e in
        let last = reading_is_from_a_call p v h (state_is_last_reading (log_of h) p v also is small call e).1 in
        let said : answer_of (judge (log_of h) call) ≡ replied (text.line "state," 1 p (decimal v)) option.none = rw nobody at e in
        rw nobody
        (by_test (is_owner connection (asker call))
        (λ o. rw (o, eq-eqb p p refl) (by_asker p v is small call o said last)) (λ o. rw o nothing))

    -- a text that tells the state of some place
    state_filed : (a : Place) (v : ℕ) (may : writable (State a v) ≡ true) (also : Option ℕ)
        → answer_of (judge (log_of h) call) ≡ replied (line_of (State a v) ++ (13 ∷ [])) also
        → CallFiled h call connection
        (for_one connection (asker call) (line_of (State a v) ++ (13 ∷ [])) ++ for_one connection also (line_of (State a v) ++ (13 ∷ [])))
    unfolding line_of
    state_filed a v may also e =
        record {
          heard = heard_by connection (asker call) (State a v ∷ []) ++ heard_by connection also (State a v ∷ []);
          says = says_append (for_one_says connection (asker call) (alone (State a v) may)) (for_one_says connection also (alone (State a v) may));
          contacts = λ p. by_test (same_place a (place_of 1 p))
              (λ same. here p (same_place_is a (place_of 1 p) same)) (λ differs. both_quiet p (State a v ∷ []) also (rw differs));
        }
      where
        here : (p : ℕ) → a ≡ place_of 1 p
            → Told h call connection p (states_of (place_of 1 p) (heard_by connection (asker call) (State a v ∷ []) ++ heard_by connection also (State a v ∷ [])))
        here p is =
            let words = sym (with_last "state," (place_of 1 p) (decimal v)) in
            rw is (state_told p v also (rw is at may) (rw is at e ∙ ap (λ (w : List ℕ). replied w also) words))

    replied_filed : {words : List ℕ} (x : Speaks words) (also : Option ℕ) → answer_of (judge (log_of h) call) ≡ replied words also
        → CallFiled h call connection (for_one connection (asker call) words ++ for_one connection also words)
    replied_filed devices also e = quiet_filed devices also (λ p. refl)
    replied_filed (alone NotReply may) also e = quiet_filed (alone NotReply may) also (λ p. refl)
    replied_filed (alone (State a v) may) also e = state_filed a v may also e
    replied_filed (alone (Complete a id) may) also e = quiet_filed (alone (Complete a id) may) also (λ p. refl)
    replied_filed (alone (Busy a id) may) also e = quiet_filed (alone (Busy a id) may) also (λ p. refl)
    replied_filed (alone (Stop a) may) also e = quiet_filed (alone (Stop a) may) also (λ p. refl)
    replied_filed (alone (Mode a m) may) also e = quiet_filed (alone (Mode a m) may) also (λ p. refl)
    replied_filed (alone (Error n a) may) also e = quiet_filed (alone (Error n a) may) also (λ p. refl)
    replied_filed (alone Version may) also e = quiet_filed (alone Version may) also (λ p. refl)
    replied_filed (alone (Listed d) may) also e = quiet_filed (alone (Listed d) may) also (λ p. refl)
    replied_filed (alone (Lamp a level target) may) also e = quiet_filed (alone (Lamp a level target) may) also (λ p. refl)

    -- completions
    record NoticesFiled (l : List Completion) : Type 0 where
      heard : List Heard
      says : Says (notices_to connection l) heard
      silent_of : (p : ℕ) → states_of (place_of 1 p) heard ≡ []

    notices_filed : {l : List Completion} → Notices l → NoticesFiled l
    notices_filed none = record { heard = []; says = silent; silent_of = λ p. refl }
    notices_filed (more {x = x} {l = l} q id may is rest) =
        let f = notices_filed rest in
        let one = alone (Complete (place_of 1 q) id) may in
        let mine = heard_by connection x.owner (replies_in one) in
        let first : Says (for_one connection x.owner x.notice) mine = rw is (for_one_says connection x.owner one) in
        record {
          heard = mine ++ f.heard;
          says = says_append first f.says;
          silent_of = λ p. states_append (place_of 1 p) mine f.heard
              ∙ rw (f.silent_of p, unheard connection x.owner (place_of 1 p) (replies_in one) refl);
        }

    call_filed : CallFiled h call connection (written_by connection call (answer_of (judge (log_of h) call)))
    call_filed = go (answer_of (judge (log_of h) call)) refl (answer_speaks h call)
      where
        go : (a : Answer) → answer_of (judge (log_of h) call) ≡ a → AnswerSpeaks a → CallFiled h call connection (written_by connection call a)
        go (refused n) e x = record { heard = []; says = silent; contacts = λ p. nothing }
        go (taken l) e x =
            let f = notices_filed x in
            record { heard = f.heard; says = f.says; contacts = λ p. quiet (f.silent_of p) }
        go (replied words also) e x = replied_filed x also e

-- ---- calls after a history
pub record CallsFiled (h calls : List Call) (connection : ℕ) : Type 0 where
  pub heard : List Heard
  pub says : Says (written_to connection calls (said (log_of h) calls)) heard
  pub contacts : (p : ℕ) → Readings connection p h calls (states_of (place_of 1 p) heard)

pub calls_filed : (h calls : List Call) (connection : ℕ) → CallsFiled h calls connection
calls_filed h [] connection = record { heard = []; says = silent; contacts = λ p. over }
calls_filed h (call ∷ calls) connection =
    let f = call_filed h connection call in
    let g = calls_filed (call ∷ h) calls connection in
    record {
      heard = f.heard ++ g.heard;
      says = says_append f.says g.says;
      contacts = λ p. rw (states_append (place_of 1 p) f.heard g.heard) (go p (f.contacts p) (g.contacts p));
    }
  where
    go : (p : ℕ) {vs ws : List ℕ} → Told h call connection p vs → Readings connection p (call ∷ h) calls ws
        → Readings connection p h (call ∷ calls) (vs ++ ws)
    go p nothing r = other call r
    go p (reading_of_law room s v is asks e l) r = rw is (told room s v asks (rw is at e) l (rw is at r))

-- ---- and what the logger reads of it
heards_all : (rs : List Heard) → all writable rs ≡ true → Heards (map (λ r. whole (line_of r)) rs) rs
heards_all [] may = ended
heards_all (r ∷ rs) may =
    reads (heard_line r (and_left (writable r) (all writable rs) may)) (heards_all rs (and_right (writable r) (all writable rs) may))

heards_one : {lines : List Line} {x y : List Heard} → Heards lines x → Heards lines y → x ≡ y
heards_one ended ended = refl
heards_one (reads i m) (reads j n) = rw (one_heard i j, heards_one m n)

-- Take all that is written to one connection by calls after a history, cut it anywhere, join it by the assembler and read it.
pub after_history : (h calls : List Call) (connection : ℕ) (pieces : List (List ℕ)) (buffer : List ℕ) → length buffer ≡ 4096
    → flatten pieces ≡ flatten (written_to connection calls (said (log_of h) calls))
    → Filed h calls connection (written_to connection calls (said (log_of h) calls)) (feed pieces fresh_assembler buffer).lines
after_history h calls connection pieces buffer size cut =
    let f = calls_filed h calls connection in
    let got : (feed pieces fresh_assembler buffer).lines ≡ map (λ r. whole (line_of r)) f.heard =
    feed_is_lines pieces buffer size ∙ ap lines_of (cut ∙ says_stream f.says) ∙ lines_spoken f.heard in
    let read : Heards (feed pieces fresh_assembler buffer).lines f.heard = rw got (heards_all f.heard (says_writable f.says)) in
    record { heard = f.heard; said = f.says; read = read; only = λ rs other. heards_one other read; contacts = f.contacts }

-- from a fresh hub, over its whole history
pub from_contact_to_file : (store : List ℕ) → length store ≡ 1560 → (calls : List Call) (connection : ℕ) (pieces : List (List ℕ)) (buffer : List ℕ)
    → length buffer ≡ 4096 → flatten pieces ≡ flatten (written_to connection calls (run fresh_hub store calls))
    → Filed [] calls connection (written_to connection calls (run fresh_hub store calls)) (feed pieces fresh_assembler buffer).lines
from_contact_to_file store room calls connection pieces buffer size cut =
    let said_so = from_fresh store room calls in
    rw said_so (after_history [] calls connection pieces buffer size (cut ∙ ap (λ (l : List Said). flatten (written_to connection calls l)) said_so))
