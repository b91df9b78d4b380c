-- A closing changes one mark in each connector's record and nothing else, over the whole hub.
use Prim.Native.Nat.{ℕ, ◌≤◌, ◌<◌}
use mathlib.Core.Path.{◌≡◌, refl, sym, ap, subst}
use mathlib.Core.Bool.{true}
use borrow.Author.Tests.{lt-ltb, le-ltb, eq-eqb, eqb-true}
use Rattle.laws.proofs.Choice.{cond_case, not_both}
use Rattle.laws.proofs.Slots.{made_length, made_in}
use Rattle.words.specs.Places.{connectors}
use Rattle.connector.specs.declared.Answer.TheVariants.{Refused}
use Rattle.connector.specs.declared.Owner.{Owner}
use Rattle.connector.specs.declared.Owner.TheVariants.{Nobody, Connection}
use Rattle.connector.specs.declared.Connector.{Connector}
use Rattle.connector.specs.Change.{owns, owner_left, disowned}
use Rattle.hub.specs.declared.Hub.{Hub}
use Rattle.hub.specs.Record.{connector_at}
use Rattle.hub.specs.Calls.{moving, closed_hub, closed_call}
use Rattle.hub.specs.Closing.{OneMark, MarksOnly}

-- who owns a transmission of a connection
owner_is : (owner : Owner) (connection : ℕ) → owns owner connection ≡ true → owner ≡ Connection connection
owner_is Nobody connection e = not_both e refl
owner_is (Connection number) connection e = ap Connection (eqb-true _ _ e)

-- one connector's mark
one_mark : (c : Connector) (connection : ℕ) → OneMark connection c (disowned c connection)
unfolding owner_left
one_mark c connection =
    record {
      left = λ e. rw (e, eq-eqb connection connection refl);
      kept =
          λ other.
          cond_case (λ (o : Owner). o ≡ c.owner) (owns c.owner connection) Nobody c.owner
          (λ e. absurd (other (owner_is c.owner connection e))) (λ _. refl);
      mode = refl;
      contact = refl;
      sending = refl;
      lamp = refl;
    }

-- that of the connector in a slot
marked : (h : Hub) (connection slot : ℕ) → slot < connectors
    → OneMark connection (connector_at h slot) (connector_at (closed_hub h connection) slot)
marked h connection slot less =
    subst (OneMark connection (connector_at h slot))
    (sym (made_in (λ other. disowned (connector_at h other) connection) connectors slot _ less))
    (one_mark (connector_at h slot) connection)

-- a closing of a connection that there may be
pub closing_marks_only : (h : Hub) (connection : ℕ) → connection ≤ 7 → MarksOnly connection h (closed_call h connection).hub
unfolding closed_call
closing_marks_only h connection low =
    rw (le-ltb 7 connection low)
    (record {
      as_many = made_length (λ slot. disowned (connector_at h slot) connection) 0 connectors;
      each = marked h connection;
      relays = refl;
    })

-- above it nothing at all is changed
pub closing_above : (h : Hub) (connection : ℕ) → 7 < connection → closed_call h connection ≡ moving (Refused 102) h
unfolding closed_call
closing_above h connection high = rw (lt-ltb 7 connection high)
