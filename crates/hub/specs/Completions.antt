-- The completions of a wait: "ordered by moment from the wait's start, then by port".
use Rattle.std.specs.Prelude.{◌+◌, ◌-◌, cond, List, [], ◌∷◌, ◌++◌, ltb, length, take, drop, replicate}
use Rattle.words.specs.Places.{connectors}
use Rattle.pace.specs.Pace as pace
use Rattle.request.specs.Place.{nowhere}
use Rattle.connector.specs.declared.Owner.TheVariants.{Nobody}
use Rattle.connector.specs.declared.Completion.{Completion}
use Rattle.hub.specs.declared.completions.Completions.{Completions}

-- behind those that are not later: inserted in the order of ports, the lower port stands first at equal moments
abbrev pub inserted : Completion → List Completion → List Completion
inserted x [] = x ∷ []
inserted x (y ∷ l) = cond (ltb x.moment.0 y.moment.0) (x ∷ y ∷ l) (y ∷ inserted x l)

-- each of some, one after the other
abbrev pub ordered : List Completion → List Completion → List Completion
ordered done [] = done
ordered done (x ∷ l) = ordered (inserted x done) l

abbrev pub no_completion : Completion
no_completion = record { owner = Nobody; moment = pace.micros 0; place = nowhere; id = 0 }

-- as the code keeps them
abbrev pub completions_of : List Completion → Completions
completions_of l = record { count = length l; items = l ++ replicate (connectors - length l) no_completion }

-- one more in the record, where there is room; of the record of a list it makes that of `inserted`
unfoldable pub put_in : Completions → Completion → Completions
put_in s x =
    cond (ltb s.count connectors)
    (record { count = s.count + 1; items = inserted x (take s.count s.items) ++ drop (s.count + 1) s.items })
    s
