-- Over any list of events on eight connections, pieces cut anywhere and mixed in any order with readings, closings and waits: what is told,
-- reply by reply and to whom, is what the history of the lines means, each line taking place at its CR.
use Prim.Native.Nat.{ℕ, zero, suc, ◌+◌, ◌*◌, ◌≤◌, ◌<◌}
use mathlib.Core.Path.{◌≡◌, refl, sym, ap, ap₂, ◌∙◌, subst}
use mathlib.Core.Bool.{true, false}
use mathlib.Core.List.{List, [], ◌∷◌, ◌++◌, map, map-append, append_assoc, append-nil, flatten}
use mathlib.Core.Option.{Option, none, some}
use native.Mathlib.Omega.{arith}
use borrow.Author.Tests.{eqb-true, eqb-false, eq-eqb, ne_eqb, ltb-true, ltb-false, le-ltb}
use lib.Dec.{eqb, ltb, leb}
use lib.ListN.{length, take, drop, set, length-set, length-drop, length-replicate, get_or-replicate, take-append-drop}
use lib.Seq.{get_or-set_same, get_or-set_other, length-take-le}
use Rattle.laws.specs.Put.{over}
use Rattle.laws.proofs.Choice.{by_test, cond_case}
use Rattle.laws.proofs.Parts.{part_here, part_elsewhere, part_back}
use Rattle.laws.proofs.Put.{over_length}
use Rattle.meaning.specs.Log.{Deed}
use Rattle.meaning.specs.Table.{Completion, Answer, refused, taken, replied, Call, log_of, carriers, levels, Said, said}
use Rattle.meaning.specs.Table as call
use Rattle.lines.specs.declared.Assembler.{Assembler}
use Rattle.lines.specs.declared.Found.{Found}
use Rattle.lines.specs.declared.Found.TheVariants as found
use Rattle.lines.specs.Cut.{line_of, divided}
use Rattle.lines.specs.Take.{fresh_assembler, counted, found_of, until_cr, Step, joined_step}
use Rattle.lines.specs.Feed.{line_in, feed}
use Rattle.lines.proofs.Cutting.{divided_append}
use Rattle.lines.proofs.Feeding.{Holds, holds_fresh, call_fed}
use Rattle.hub.specs.declared.Hub.{Hub}
use Rattle.hub.specs.Record.{fresh_hub, applied}
use Rattle.hub.specs.Line.{line_step}
use Rattle.hub.specs.Calls.{carriers_of, levels_of}
use Rattle.hub.specs.Calls as hub
use Rattle.history.specs.Heard.{answer_out}
use Rattle.history.specs.Run.{called, run}
use Rattle.history.specs.Waiting.{Reached, reached}
use Rattle.history.proofs.Following.{hub_at, Keeps, follows, carriers_follow, levels_follow, from_fresh}
use Rattle.reads.proofs.Cursor.{mode_in}
use Rattle.lamp.proofs.Meaning.{shown_at}
use Rattle.logged.specs.Written.{asker, for_one, notices_to, written_by, written_to}
use Rattle.logged.specs.Filed.{Filed}
use Rattle.logged.proofs.Filing.{from_contact_to_file}
use Rattle.server.specs.Record.{connections, buffer_size, all_buffers, server_of, assembler_at, buffer_at}
use Rattle.server.specs.Piece.{PieceStep, found_step, served_step, piece_step}
use Rattle.server.specs.Calls.{closed_call}
use Rattle.server.proofs.Keeps.{served_some}
use Rattle.served.specs.Events.{Event, piece, closed, reading, waiting, nothing_begun, begun_with, begun_by, call_of, calls_by, calls_from, begun_from, history_of}
use Rattle.served.specs.Told.{Told, answer_told, told, texts_for, reply_to, completion_told, log_after}
use Rattle.served.specs.Serving.{State, state_of, fresh_state, Gave, gave, then_gave, piece_gave, piece_served, event_served, served}

-- ---- calls one after the other
pub reached_append : (hub : Hub) (store : List ℕ) (k l : List Call)
    → reached hub store (k ++ l) ≡ reached (reached hub store k).hub (reached hub store k).store l
reached_append hub store [] l = refl
reached_append hub store (call ∷ k) l =
    let c = called hub store call in
    reached_append c.hub c.store k l

told_append : (hub : Hub) (store : List ℕ) (k l : List Call)
    → told (k ++ l) (run hub store (k ++ l))
    ≡ told k (run hub store k) ++ told l (run (reached hub store k).hub (reached hub store k).store l)
told_append hub store [] l = refl
told_append hub store (call ∷ k) l =
    let c = called hub store call in
    rw (told_append c.hub c.store k l, append_assoc)

-- ---- what a server stands for: the bytes of each connection's unfinished line
pub record Stands (begun : ℕ → List ℕ) (s : State) : Type 0 where
  pub many : length s.server.assemblers ≡ connections
  pub room : length s.buffers ≡ all_buffers
  pub each : (c : ℕ) → c < connections → Holds (assembler_at s.server c) (buffer_at s.buffers c) (begun c)

-- a connection's buffer
buffer_room : {begun : ℕ → List ℕ} {s : State} → Stands begun s → (c : ℕ) → c < connections → length (buffer_at s.buffers c) ≡ buffer_size
buffer_room k c h = (k.each c h).room

stands_fresh : (store buffers : List ℕ) → length buffers ≡ all_buffers → Stands nothing_begun (fresh_state store buffers)
stands_fresh store buffers h =
    record {
      many = length-replicate connections fresh_assembler;
      room = h;
      each = λ c less.
          let at : buffer_size ≤ length (drop (c * buffer_size) buffers) = rw length-drop (omega arith) in
          rw (get_or-replicate connections c fresh_assembler fresh_assembler less)
          (holds_fresh (buffer_at buffers c) (length-take-le buffer_size (drop (c * buffer_size) buffers) at));
    }

-- the same bytes
stands_alike : {begun other : ℕ → List ℕ} {s : State} → ((c : ℕ) → c < connections → begun c ≡ other c) → Stands begun s → Stands other s
stands_alike {s = s} same k =
    record {
      many = k.many;
      room = k.room;
      each = λ c less. subst (λ (b : List ℕ). Holds (assembler_at s.server c) (buffer_at s.buffers c) b) (same c less) (k.each c less);
    }

-- another assembler and buffer for one connection
stands_set : {begun : ℕ → List ℕ} {s : State} (c : ℕ) → c < connections → Stands begun s → (hub : Hub) (store : List ℕ) (a : Assembler)
    (part bytes : List ℕ) → Holds a part bytes
    → Stands (begun_with c bytes begun)
    (state_of (server_of hub (set s.server.assemblers c a)) store (over s.buffers (c * buffer_size) part))
stands_set {begun} {s} c less k hub store a part bytes new =
    let fits : c * buffer_size + buffer_size ≤ length s.buffers = omega (arith, k.room) in
    let at : c < length s.server.assemblers = omega (arith, k.many) in
    record {
      many = length-set s.server.assemblers c a ∙ k.many;
      room = over_length s.buffers (c * buffer_size) part (omega (arith, new.room)) ∙ k.room;
      each = λ d below.
          by_test (eqb d c)
          (λ e.
          rw (e, eqb-true d c e, get_or-set_same s.server.assemblers c a fresh_assembler at, part_here buffer_size s.buffers c part new.room fits)
          new)
          (λ e.
          let other = eqb-false d c e in
          rw (e, get_or-set_other s.server.assemblers c d a fresh_assembler other, part_elsewhere buffer_size s.buffers c part new.room fits d other)
          (k.each d below));
    }

-- ---- what a server gives that tells what some calls are told, and stands then where they leave it
abbrev hub_of : State → Reached
hub_of s = record { hub = s.server.hub; store = s.store }

pub record Gives (calls : List Call) (begun : ℕ → List ℕ) (s : State) (g : Gave) : Type 0 where
  pub told : g.told ≡ told calls (run s.server.hub s.store calls)
  pub after : hub_of g.state ≡ reached s.server.hub s.store calls
  pub stands : Stands begun g.state

gives_none : {begun : ℕ → List ℕ} {s : State} → Stands begun s → Gives [] begun s (gave [] s)
gives_none k = record { told = refl; after = refl; stands = k }

gives_then : {k l : List Call} {begun other : ℕ → List ℕ} {s : State} {g : Gave} (next : State → Gave) → Gives k begun s g
    → Gives l other g.state (next g.state) → Gives (k ++ l) other s (then_gave g next)
gives_then {k} {l} {s = s} next x y =
    let hub = s.server.hub in
    let store = s.store in
    record {
      told = ap₂ (λ (a b : List Told). a ++ b) x.told (y.told ∙ ap (λ (r : Reached). told l (run r.hub r.store l)) x.after)
          ∙ sym (told_append hub store k l);
      after = y.after ∙ ap (λ (r : Reached). reached r.hub r.store l) x.after ∙ sym (reached_append hub store k l);
      stands = y.stands;
    }

-- where the calls and the bytes are the same
gives_alike : {k l : List Call} {begun other : ℕ → List ℕ} {s : State} {g : Gave} → k ≡ l → ((c : ℕ) → c < connections → begun c ≡ other c)
    → Gives k begun s g → Gives l other s g
gives_alike {begun = begun} {other} {s} {g} e same x =
    subst (λ (calls : List Call). Gives calls other s g) e
    (record { told = x.told; after = x.after; stands = stands_alike same x.stands })

-- ---- what is told to one connection
texts_append : (c : ℕ) (k l : List Told) → texts_for c (k ++ l) ≡ texts_for c k ++ texts_for c l
texts_append c [] l = refl
texts_append c (x ∷ k) l = rw (texts_append c k l, append_assoc)

reply_texts : (c : ℕ) (whom : Option ℕ) (words : List ℕ) → texts_for c (reply_to whom words) ≡ for_one c whom words
reply_texts c none words = refl
reply_texts c (some other) words = append-nil _

notice_texts : (c : ℕ) (l : List Completion) → texts_for c (map completion_told l) ≡ notices_to c l
notice_texts c [] = refl
notice_texts c (x ∷ l) = rw (notice_texts c l)

answer_texts : (c : ℕ) (asked : Call) (a : Answer) → texts_for c (answer_told (asker asked) a) ≡ written_by c asked a
answer_texts c asked (refused n) = refl
answer_texts c asked (taken l) = notice_texts c l
answer_texts c asked (replied words also) = rw (texts_append, reply_texts, reply_texts)

texts_written : (c : ℕ) (calls : List Call) (l : List Said) → texts_for c (told calls l) ≡ written_to c calls l
texts_written c [] l = refl
texts_written c (asked ∷ calls) [] = refl
texts_written c (asked ∷ calls) (x ∷ l) =
    texts_append c (answer_told (asker asked) x.answer) (told calls l)
    ∙ ap₂ (λ (a b : List (List ℕ)). a ++ b) (answer_texts c asked x.answer) (texts_written c calls l)

-- ---- the carriers and levels after calls
record Shows (r : Reached) (log : List Deed) : Type 0 where
  on : carriers_of r.hub r.store ≡ carriers log
  lit : levels_of r.hub ≡ levels log

reached_shows : (h l : List Call) (store : List ℕ) → Keeps store (log_of h)
    → Shows (reached (hub_at (log_of h)) store l) (log_after (log_of h) l)
reached_shows h [] store st = record { on = carriers_follow h store st; lit = levels_follow h store st }
reached_shows h (call ∷ l) store st =
    let f = follows h store st call in
    let c = called (hub_at (log_of h)) store call in
    subst (λ (x : Hub). Shows (reached x c.store l) (log_after (log_of (call ∷ h)) l)) (sym f.hub) (reached_shows (call ∷ h) l c.store f.stored)

-- ---- the hub on what the assembler has found

module _ (hub : Hub) (store : List ℕ) (c room : ℕ) (buffer : List ℕ) where
  -- the calls that it asks of the hub
  abbrev asked : Found → List Call
  asked f = map (call_of c room) (line_in buffer f)

  found_told : (f : Found) → answer_told (some c) (answer_out (found_step hub store c room buffer f).decided.answer []) ≡ told (asked f) (run hub store (asked f))
  found_told found.Nothing = refl
  found_told (found.Line size) = sym (append-nil _)
  found_told found.Overlong = sym (append-nil _)

  found_after : (f : Found) → record { hub = applied hub (found_step hub store c room buffer f).decided.change; store = (found_step hub store c room buffer f).store }
      ≡ reached hub store (asked f)
  found_after found.Nothing = refl
  found_after (found.Line size) = refl
  found_after found.Overlong = refl

-- ---- the lines of bytes behind others
module _ (room c : ℕ) where
  -- the lines of some bytes behind others, as calls
  abbrev lines_of : List ℕ → List ℕ → List Call
  lines_of begun bytes = map (call_of c room) (map line_of (divided begun bytes).parts)

  -- bytes that are served in two goes
  twice : (begun : ℕ → List ℕ) (x y : List ℕ) (d : ℕ)
      → begun_with c (divided (divided (begun c) x).rest y).rest (begun_with c (divided (begun c) x).rest begun) d
      ≡ begun_with c (divided (begun c) (x ++ y)).rest begun d
  twice begun x y d = by_test (eqb d c) (λ e. rw (e, divided_append x y (begun c))) (λ e. rw e)

  lines_twice : (begun x y : List ℕ) → lines_of begun x ++ lines_of (divided begun x).rest y ≡ lines_of begun (x ++ y)
  lines_twice begun x y = rw (divided_append x y begun, map-append, map-append)

  same_begun : (begun : ℕ → List ℕ) (d : ℕ) → begun d ≡ begun_with c (begun c) begun d
  same_begun begun d = by_test (eqb d c) (λ e. rw (e, eqb-true d c e)) (λ e. rw e)

module _ (room : ℕ) (enough : 128 ≤ room) where
  -- ---- a piece
  module _ (c : ℕ) (few : c ≤ 7) where
    -- a call with bytes of one of the eight is not refused
    piece_is : {begun : ℕ → List ℕ} {s : State} → Stands begun s → (bytes : List ℕ)
        → piece_step s.server s.store s.buffers c bytes room ≡ served_step s.server s.store s.buffers c bytes room
    unfolding piece_step
    piece_is {s = s} k bytes = rw (le-ltb 7 c few, le-ltb room 128 enough, eq-eqb (length s.buffers) all_buffers k.room)

    step_gives : {begun : ℕ → List ℕ} (s : State) → Stands begun s → (bytes : List ℕ)
        → let x = served_step s.server s.store s.buffers c bytes room in
        let used = take x.served.used bytes in
        Gives (lines_of room c (begun c) used) (begun_with c (divided (begun c) used).rest begun) s (piece_gave c x)
    unfolding served_step
    step_gives {begun} s k bytes =
        let a = assembler_at s.server c in
        let buffer = buffer_at s.buffers c in
        let step = joined_step a buffer bytes in
        let fed = call_fed (k.each c (omega arith)) bytes in
        let o = found_step s.server.hub s.store c room step.buffer step.taken.found in
        let calls = ap (map (call_of c room)) fed.lines in
        gives_alike calls (λ d less. refl)
        (record {
          told = found_told s.server.hub s.store c room step.buffer step.taken.found;
          after = found_after s.server.hub s.store c room step.buffer step.taken.found;
          stands =
              stands_set c (omega arith) k (applied s.server.hub o.decided.change) o.store step.taken.assembler step.buffer
              (divided (begun c) (take step.taken.used bytes)).rest fed.holds;
        })

    piece_gives : (n : ℕ) (bytes : List ℕ) {begun : ℕ → List ℕ} (s : State) → length bytes ≤ n → Stands begun s
        → Gives (lines_of room c (begun c) bytes) (begun_with c (divided (begun c) bytes).rest begun) s (piece_served c room n bytes s)
    piece_gives zero [] {begun} s l k = gives_alike refl (λ d less. same_begun room c begun d) (gives_none k)
    piece_gives zero (b ∷ bytes) s l k = absurd (omega arith)
    piece_gives (suc n) [] {begun} s l k = gives_alike refl (λ d less. same_begun room c begun d) (gives_none k)
    piece_gives (suc n) (b ∷ bytes) {begun} s l k =
        let all = b ∷ bytes in
        let x = piece_step s.server s.store s.buffers c all room in
        let is = piece_is k all in
        let used = x.served.used in
        let some = ap (λ (y : PieceStep). y.served.used) is in
        let more : 0 < used =
        omega (arith, some, served_some s.server s.store s.buffers c all room few k.room (omega arith)) in
        let now : Gives (lines_of room c (begun c) (take used all)) (begun_with c (divided (begun c) (take used all)).rest begun) s (piece_gave c x) =
        rw is (step_gives s k all) in
        let left : length (drop used all) ≤ n = omega (arith, length-drop used all) in
        let here = begun_with c (divided (begun c) (take used all)).rest begun in
        let at : here c ≡ (divided (begun c) (take used all)).rest = rw (eq-eqb c c refl) in
        let later = piece_gives n (drop used all) (piece_gave c x).state left now.stands in
        let joined = take-append-drop used all in
        gives_alike
        (ap (λ (r : List ℕ). lines_of room c (begun c) (take used all) ++ lines_of room c r (drop used all)) at
        ∙ lines_twice room c (begun c) (take used all) (drop used all)
        ∙ ap (lines_of room c (begun c)) joined)
        (λ d less.
        ap (λ (r : List ℕ). begun_with c (divided r (drop used all)).rest here d) at
        ∙ twice room c begun (take used all) (drop used all) d
        ∙ ap (λ (r : List ℕ). begun_with c (divided (begun c) r).rest begun d) joined)
        (gives_then (piece_served c room n (drop used all)) now later)

  -- a piece of a connection above 7 is refused as a line of it is
  refused_gives : {begun : ℕ → List ℕ} (c : ℕ) (bytes : List ℕ) (s : State) → ltb 7 c ≡ true → Stands begun s
      → Gives (call.line c room bytes ∷ []) begun s (piece_gave c (piece_step s.server s.store s.buffers c bytes room))
  unfolding piece_step line_step
  refused_gives c bytes s e k = record { told = rw e; after = rw e; stands = rw e k }

  -- ---- a closing
  closed_gives : {begun : ℕ → List ℕ} (c : ℕ) (s : State) → Stands begun s
      → Gives (call.closing c ∷ []) (begun_with c [] begun) s (event_served room (closed c) s)
  unfolding closed_call hub.closed_call
  closed_gives {begun} c s k =
      by_test (ltb 7 c)
      (λ e.
      let high = ltb-true 7 c e in
      record { told = rw e; after = rw e; stands = rw e (stands_alike (λ d less. rw (ne_eqb d c (λ same. omega arith))) k) })
      (λ e.
      let low : c < connections = omega (arith, ltb-false 7 c e) in
      let next = server_of (hub.closed_hub s.server.hub c) (set s.server.assemblers c fresh_assembler) in
      record {
        told = rw e;
        after = rw e;
        stands =
            rw e
            (subst (λ (b : List ℕ). Stands (begun_with c [] begun) (state_of next s.store b)) (part_back buffer_size s.buffers c)
            (stands_set c low k (hub.closed_hub s.server.hub c) s.store fresh_assembler (buffer_at s.buffers c) []
            (holds_fresh (buffer_at s.buffers c) (buffer_room k c low))));
      })

  -- ---- every event
  event_gives : {begun : ℕ → List ℕ} (e : Event) (s : State) → Stands begun s → Gives (calls_by room begun e) (begun_by begun e) s (event_served room e s)
  event_gives (piece c bytes) s k =
      by_test (ltb 7 c)
      (λ e. rw e (refused_gives c bytes s e k))
      (λ e. rw e (piece_gives c (ltb-false 7 c e) (length bytes) bytes s (omega arith) k))
  event_gives (closed c) s k = closed_gives c s k
  event_gives (reading port value) s k =
      record { told = sym (append-nil _); after = refl; stands = record { many = k.many; room = k.room; each = k.each } }
  event_gives (waiting n) s k =
      record { told = sym (append-nil _); after = refl; stands = record { many = k.many; room = k.room; each = k.each } }

  events_give : {begun : ℕ → List ℕ} (events : List Event) (s : State) → Stands begun s
      → Gives (calls_from room begun events) (begun_from begun events) s (served room events s)
  events_give [] s k = gives_none k
  events_give {begun} (e ∷ events) s k =
      let x = event_gives e s k in
      gives_then (served room events) x (events_give {begun = begun_by begun e} events (event_served room e s).state x.stands)

  -- ---- the theorems, from a fresh server, whatever the lent memory holds at first
  module _ (store buffers : List ℕ) (sized : length store ≡ 1560) (long : length buffers ≡ all_buffers) (events : List Event) where
    abbrev history : List Call
    history = history_of room events

    pub given : Gives history (begun_from nothing_begun events) (fresh_state store buffers) (served room events (fresh_state store buffers))
    given = events_give events (fresh_state store buffers) (stands_fresh store buffers long)

    -- all that is told, to whom and in which order, is what the history means
    pub events_from_fresh : (served room events (fresh_state store buffers)).told ≡ told history (said [] history)
    events_from_fresh = given.told ∙ ap (told history) (from_fresh store sized history)

    -- what is written to each connection is what the history of the lines writes to it
    pub each_connection : (connection : ℕ)
        → texts_for connection (served room events (fresh_state store buffers)).told ≡ written_to connection history (said [] history)
    each_connection connection = ap (texts_for connection) events_from_fresh ∙ texts_written connection history (said [] history)

    -- each connector's carrier and level then
    shows : Shows (reached (fresh_state store buffers).server.hub (fresh_state store buffers).store history) (log_after [] history)
    unfolding mode_in shown_at
    shows = reached_shows [] history store (record { size = sized; held = λ slot h. tt })

    pub events_carriers : carriers_of (served room events (fresh_state store buffers)).state.server.hub (served room events (fresh_state store buffers)).state.store
        ≡ carriers (log_after [] history)
    events_carriers = ap (λ (r : Reached). carriers_of r.hub r.store) given.after ∙ shows.on

    pub events_levels : levels_of (served room events (fresh_state store buffers)).state.server.hub ≡ levels (log_after [] history)
    events_levels = ap (λ (r : Reached). levels_of r.hub) given.after ∙ shows.lit

    -- and from contact to file: what a logger at one connection hears of it
    pub filed_of_events : (connection : ℕ) (pieces : List (List ℕ)) (buffer : List ℕ) → length buffer ≡ 4096
        → flatten pieces ≡ flatten (texts_for connection (served room events (fresh_state store buffers)).told)
        → Filed [] history connection (texts_for connection (served room events (fresh_state store buffers)).told) (feed pieces fresh_assembler buffer).lines
    filed_of_events connection pieces buffer h cut =
        let by-hub = ap (texts_for connection) given.told ∙ texts_written connection history (run fresh_hub store history) in
        subst (λ (texts : List (List ℕ)). Filed [] history connection texts (feed pieces fresh_assembler buffer).lines) (sym by-hub)
        (from_contact_to_file store sized history connection pieces buffer h (cut ∙ ap flatten by-hub))

-- ---- a piece cut in two, wherever it stands among the events, is the same history
module _ (room : ℕ) (c : ℕ) (few : c ≤ 7) (x y : List ℕ) (after : List Event) where
  cut_begun : (begun : ℕ → List ℕ) → calls_from room begun (piece c (x ++ y) ∷ after) ≡ calls_from room begun (piece c x ∷ piece c y ∷ after)
  cut_begun begun =
      let low = le-ltb 7 c few in
      let here = begun_with c (divided (begun c) x).rest begun in
      let at : here c ≡ (divided (begun c) x).rest = rw (eq-eqb c c refl) in
      let same : begun_with c (divided (begun c) (x ++ y)).rest begun ≡ begun_with c (divided (divided (begun c) x).rest y).rest here =
      λ i d. sym (twice room c begun x y d) i in
      rw low
      (ap₂ (λ (l : List Call) (b : ℕ → List ℕ). l ++ calls_from room b after) (sym (lines_twice room c (begun c) x y)) same
      ∙ append_assoc (lines_of room c (begun c) x) (lines_of room c (divided (begun c) x).rest y) _
      ∙ ap (λ (r : List ℕ). lines_of room c (begun c) x ++ (lines_of room c r y ++ calls_from room (begun_with c (divided r y).rest here) after)) (sym at))

  pub cut_anywhere : (before : List Event) → history_of room (before ++ (piece c (x ++ y) ∷ after)) ≡ history_of room (before ++ (piece c x ∷ piece c y ∷ after))
  cut_anywhere before = go before nothing_begun
    where
      go : (before : List Event) (begun : ℕ → List ℕ)
          → calls_from room begun (before ++ (piece c (x ++ y) ∷ after)) ≡ calls_from room begun (before ++ (piece c x ∷ piece c y ∷ after))
      go [] begun = cut_begun begun
      go (e ∷ before) begun = ap (λ (l : List Call). calls_by room begun e ++ l) (go before (begun_by begun e))

-- ---- bytes that end no line leave nothing behind a closing of their connection
pub closing_drops : (room c : ℕ) → c ≤ 7 → (begun : ℕ → List ℕ) (x : List ℕ) → (divided (begun c) x).parts ≡ [] → (events : List Event)
    → calls_from room begun (piece c x ∷ closed c ∷ events) ≡ calls_from room begun (closed c ∷ events)
closing_drops room c few begun x unended events =
    let same : begun_with c [] (begun_with c (divided (begun c) x).rest begun) ≡ begun_with c [] begun =
    λ i d. by_test (eqb d c) (λ e. dropped d e) (λ e. kept d e) i in
    rw (le-ltb 7 c few, unended) (ap (λ (b : ℕ → List ℕ). call.closing c ∷ calls_from room b events) same)
  where
    dropped : (d : ℕ) → eqb d c ≡ true → begun_with c [] (begun_with c (divided (begun c) x).rest begun) d ≡ begun_with c [] begun d
    dropped d e = rw e

    kept : (d : ℕ) → eqb d c ≡ false → begun_with c [] (begun_with c (divided (begun c) x).rest begun) d ≡ begun_with c [] begun d
    kept d e = rw e
