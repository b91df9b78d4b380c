-- From a fresh hub, over any list of calls: all that the hub says is what the table says, by the log book.
use Prim.Native.Nat.{ℕ, suc, ◌<◌}
use mathlib.Core.Path.{◌≡◌, refl, sym, ap, ap₂, ◌∙◌, subst}
use mathlib.Core.Bool.{not, ◌&&◌}
use mathlib.Core.List.{List, [], ◌∷◌, ◌++◌}
use native.Mathlib.Omega.{arith}
use lib.Dec.{ltb}
use lib.ListN.{length}
use Rattle.laws.specs.Checks.{between}
use Rattle.laws.proofs.Choice.{by_test, cond_case}
use Rattle.words.specs.Places.{connectors}
use Rattle.request.specs.Place.{nowhere}
use Rattle.request.specs.Request.{read_request}
use Rattle.request.proofs.Accepted.{within}
use Rattle.meaning.specs.Line.{is}
use Rattle.meaning.specs.Log.{Deed, setting, felt, event, left, now, mode_of, relay_of}
use Rattle.meaning.specs.Table.{taken, Judged, refusal, answer_of, deeds_of, Call, line, overlong, reading, closing, waiting, judge, logged, log_of, carriers, levels, Said, said}
use Rattle.reply.specs.Reply.{reply_text}
use Rattle.connector.specs.declared.Completion.{Completion}
use Rattle.connector.specs.declared.Answer as hubs
use Rattle.connector.specs.declared.Answer.TheVariants as answer
use Rattle.hub.specs.declared.Hub.{Hub}
use Rattle.hub.specs.declared.HubChange.TheVariants as change
use Rattle.hub.specs.Record.{fresh_hub}
use Rattle.hub.specs.Line.{Outcome, deciding, leaving, line_step, overlong_step}
use Rattle.hub.specs.Calls.{reading_call, closed_call, carriers_of, levels_of}
use Rattle.hub.specs.Wait.{wait_call}
use Rattle.history.specs.Heard.{answer_out}
use Rattle.history.specs.Run.{Called, after_change, called, run}
use Rattle.reads.proofs.Rows.{line_is}
use Rattle.reads.proofs.Cursor.{mode_in}
use Rattle.lamp.proofs.Meaning.{shown_at}
use Rattle.shown.proofs.Known.{Known, error_line}
use Rattle.history.proofs.Agrees.{hub_of, Stored, Means, unmoved, hub_alike, stored_alike, means_alike}
use Rattle.history.proofs.Asking.{asked_means}
use Rattle.history.proofs.Calling.{left_by, wait_passes, wait_completes, stored_later, closed_means, closed_stored, reading_means, carriers_shown, levels_shown}
use Rattle.shown.proofs.View.{view, worded, request_step, now_step, relay_step_law, reading_step, closing_step}
use Rattle.history.proofs.Told.{request_said_law, reading_said_law, carriers_are, levels_are, completions_are}
use Rattle.shown.proofs.Logged.{logged_fit, logged_fits}

-- the hub that shows a log
abbrev pub hub_at : List Deed → Hub
hub_at log = hub_of (now log) (view log) (λ p. relay_of p log)

-- the store of what a log has on air
abbrev pub Keeps : List ℕ → List Deed → Type 0
Keeps store log = Stored store (now log) (view log)

-- what a call makes is how the call is judged by the log
pub record Follows (log : List Deed) (j : Judged) (c : Called) : Type 0 where
  pub said : answer_out c.answer c.completions ≡ answer_of j
  pub hub : c.hub ≡ hub_at (deeds_of j ++ log)
  pub stored : Keeps c.store (deeds_of j ++ log)

-- a step that takes no time and completes nothing
plainly : {log : List Deed} {j : Judged} {a : hubs.Answer} {K : ℕ → Known} {R : ℕ → ℕ} {o : Outcome} → Means (now log) (hub_at log) a K R o
    → answer_of j ≡ answer_out a [] → now (deeds_of j ++ log) ≡ now log
    → ((slot : ℕ) → slot < connectors → view (deeds_of j ++ log) (suc slot) ≡ K (suc slot)) → ((p : ℕ) → relay_of p (deeds_of j ++ log) ≡ R p)
    → Follows log j (after_change (hub_at log) o)
plainly {log} {j} {o = o} m heard still seen switched =
    let n = means_alike {L = view (deeds_of j ++ log)} {S = λ p. relay_of p (deeds_of j ++ log)} (λ slot h. sym (seen slot h)) (λ p. sym (switched p)) m in
    record {
      said = ap (λ (a : hubs.Answer). answer_out a []) n.said ∙ sym heard;
      hub = n.hub ∙ ap (λ (t : ℕ). hub_of t (view (deeds_of j ++ log)) (λ p. relay_of p (deeds_of j ++ log))) (sym still);
      stored = subst (λ (t : ℕ). Stored o.store t (view (deeds_of j ++ log))) (sym still) n.stored;
    }

module _ (h : List Call) (store : List ℕ) (st : Keeps store (log_of h)) where
  -- the log so far
  abbrev log : List Deed
  log = log_of h

  -- a refusal changes nothing
  refuses : (n : ℕ) → Follows log (refusal n) (after_change (hub_at log) (leaving (deciding (answer.Refused n) change.Nothing) store))
  refuses n = plainly (unmoved st (answer.Refused n)) refl refl (λ slot w. refl) (λ p. refl)

  -- a line
  line_follows : (connection room : ℕ) (text : List ℕ)
      → Follows log (judge log (line connection room text)) (after_change (hub_at log) (line_step (hub_at log) store connection text room))
  unfolding line_step
  line_follows connection room text =
      by_test (ltb 7 connection) (λ e. rw e (refuses 102)) λ e.
      by_test (ltb room 128) (λ f. rw (e, f) (refuses 101)) λ f.
      rw (e, f, line_is log connection text)
      (plainly
      (asked_means (now log) (view log) (λ p. relay_of p log) (logged_fit h) store st connection text (read_request text) (within text))
      (request_said_law log connection text (worded h) (read_request text) (within text)) (now_step log connection text (read_request text))
      (λ slot w. request_step log connection text (suc slot) (worded h) (read_request text)) (λ p. relay_step_law log connection text p (read_request text)))

  -- an overlong line
  overlong_follows : (connection room : ℕ)
      → Follows log (judge log (overlong connection room)) (after_change (hub_at log) (leaving (overlong_step connection room) store))
  unfolding overlong_step reply_text
  overlong_follows connection room =
      by_test (ltb 7 connection) (λ e. rw e (refuses 102)) λ e.
      by_test (ltb room 128) (λ f. rw (e, f) (refuses 101))
      (λ f. rw (e, f) (plainly (unmoved st (error_line 15 nowhere)) refl refl (λ slot w. refl) (λ p. refl)))

  -- a reading
  reading_follows : (port value : ℕ)
      → Follows log (judge log (reading port value)) (after_change (hub_at log) (leaving (reading_call (hub_at log) port value) store))
  reading_follows port value =
      plainly (reading_means (now log) (view log) (λ p. relay_of p log) (logged_fits h) store st port value) (reading_said_law log port value)
      (unheard (λ l. now l ≡ now log) refl refl)
      (λ slot w. reading_step log port value (suc slot) (omega arith) (omega arith))
      (λ p. unheard (λ l. relay_of p l ≡ relay_of p log) refl refl)
    where
      -- of both a refused and a taken reading
      unheard : (P : List Deed → Type 0) → P log → P (setting port (felt value) ∷ log) → P (logged log (reading port value))
      unheard P a b =
          cond_case (λ (j : Judged). P (deeds_of j ++ log))
          (not (between 1 connectors port && is "SENSOR" (mode_of port log) && between 0 1 value)) _ _ (λ _. a) (λ _. b)

  -- what is known after a closing is what the log shows then
  left_seen : (connection slot : ℕ) → slot < connectors
      → left_by (view log) connection (suc slot) ≡ view (event (left connection) ∷ log) (suc slot)
  left_seen connection slot w = sym (closing_step log connection (suc slot))

  -- a closing
  closing_follows : (connection : ℕ) → Follows log (judge log (closing connection)) (called (hub_at log) store (closing connection))
  unfolding closed_call
  closing_follows connection =
      by_test (ltb 7 connection) (λ e. rw e (record { said = refl; hub = refl; stored = st })) λ e.
      rw e
      (record {
        said = refl;
        hub = closed_means (now log) (view log) (λ p. relay_of p log) (logged_fits h) store st connection
            ∙ hub_alike (now log) (left_by (view log) connection) (view (event (left connection) ∷ log)) {R = λ p. relay_of p log} (left_seen connection)
            (λ p. refl);
        stored = stored_alike (left_seen connection) (closed_stored (now log) (view log) (λ p. relay_of p log) (logged_fits h) store st connection);
      })

  -- a wait
  wait_follows : (n : ℕ) → Follows log (judge log (waiting n)) (called (hub_at log) store (waiting n))
  unfolding wait_call
  wait_follows n =
      by_test (ltb 1000000000 n)
      (λ e. rw e (record { said = refl; hub = refl; stored = st }))
      (λ e. rw e
      (record {
        said = ap (λ (l : List Completion). answer_out answer.Taken l) (wait_completes (now log) (view log) (λ p. relay_of p log) (logged_fits h) n)
            ∙ ap taken (sym (completions_are log n));
        hub = wait_passes (now log) (view log) (λ p. relay_of p log) (logged_fits h) n;
        stored = stored_later (now log) (view log) (λ p. relay_of p log) (logged_fits h) store st n;
      }))

  -- ---- every call
  -- whichever it is
  pub follows : (call : Call) → Follows log (judge log call) (called (hub_at log) store call)
  follows (line connection room text) = line_follows connection room text
  follows (overlong connection room) = overlong_follows connection room
  follows (reading port value) = reading_follows port value
  follows (closing connection) = closing_follows connection
  follows (waiting n) = wait_follows n

  -- the carriers at any time
  pub carriers_follow : carriers_of (hub_at log) store ≡ carriers log
  carriers_follow =
      carriers_shown (now log) (view log) (λ p. relay_of p log) (logged_fits h) store st ∙ sym (carriers_are log)

  -- the levels at any time
  pub levels_follow : levels_of (hub_at log) ≡ levels log
  levels_follow = levels_shown (now log) (view log) (λ p. relay_of p log) (logged_fits h) ∙ sym (levels_are log)

-- ---- all calls, one after the other
-- after any history all that is said to more calls is what the table says
pub followed : (h l : List Call) (store : List ℕ) → Keeps store (log_of h) → run (hub_at (log_of h)) store l ≡ said (log_of h) l
followed h [] store st = refl
followed h (call ∷ l) store st =
    let f = follows h store st call in
    let c = called (hub_at (log_of h)) store call in
    let lit : levels_of c.hub ≡ levels (log_of (call ∷ h)) = ap levels_of f.hub ∙ levels_follow (call ∷ h) c.store f.stored in
    let on : carriers_of c.hub c.store ≡ carriers (log_of (call ∷ h)) =
    ap (λ (x : Hub). carriers_of x c.store) f.hub ∙ carriers_follow (call ∷ h) c.store f.stored in
    ap₂ (λ (x : Said) (y : List Said). x ∷ y) (λ i. record { answer = f.said i; carriers = on i; levels = lit i })
    (ap (λ (x : Hub). run x c.store l) f.hub ∙ followed (call ∷ h) l c.store f.stored)

-- whatever the store holds at first
pub from_fresh : (store : List ℕ) → length store ≡ 1560 → (calls : List Call) → run fresh_hub store calls ≡ said [] calls
unfolding mode_in shown_at
from_fresh store size calls = followed [] calls store (record { size = size; held = λ slot h. tt })
