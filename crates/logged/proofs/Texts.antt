-- What texts say that are written one after the other, and a history that writes one line alone.
use Prim.Native.Nat.{ℕ}
use mathlib.Core.Path.{◌≡◌, refl, ap, ◌∙◌}
use mathlib.Core.Bool.{true}
use mathlib.Core.List.{List, [], ◌∷◌, ◌++◌, map, map-append, flatten, append-nil, append_assoc}
use Rattle.laws.specs.Lists.{all}
use Rattle.laws.proofs.Lists.{all_append}
use Rattle.meaning.specs.Table.{Call, said}
use Rattle.lines.specs.Cut.{divided, stream_of}
use Rattle.logger.specs.declared.Heard.{Heard}
use Rattle.logger.specs.Heard.{line_of, writable}
use Rattle.logger.proofs.Plain.{parts_spoken}
use Rattle.logged.specs.Written.{written_to, Writes}
use Rattle.logged.specs.Filed.{Says, silent, speaks}

stream_append : (a b : List (List ℕ)) → stream_of (a ++ b) [] ≡ stream_of a [] ++ stream_of b []
stream_append [] b = refl
stream_append (s ∷ a) b = rw (stream_append a b, append_assoc)

pub says_stream : {texts : List (List ℕ)} {rs : List Heard} → Says texts rs → flatten texts ≡ stream_of (map line_of rs) []
unfolding flatten
says_stream silent = refl
says_stream (speaks {texts = texts} {rs = rs} words replies may is rest) =
    rw (is, says_stream rest, map-append line_of replies rs, stream_append (map line_of replies) (map line_of rs))

pub says_writable : {texts : List (List ℕ)} {rs : List Heard} → Says texts rs → all writable rs ≡ true
says_writable silent = refl
says_writable (speaks {rs = rs} words replies may is rest) = all_append writable replies rs may (says_writable rest)

pub says_append : {a b : List (List ℕ)} {x y : List Heard} → Says a x → Says b y → Says (a ++ b) (x ++ y)
says_append silent t = t
says_append {y = y} (speaks {rs = rs} words replies may is rest) t =
    rw append_assoc (speaks words replies may is (says_append rest t))

-- ---- a history that writes one line alone

module _ (calls : List Call) (connection : ℕ) (r : Heard) where
  pub alone_written : written_to connection calls (said [] calls) ≡ (line_of r ++ (13 ∷ [])) ∷ [] → Writes (said []) (line_of r)
  unfolding flatten
  alone_written e =
      record {
        calls = calls;
        connection = connection;
        before = [];
        after = [];
        among =
            ap (λ (l : List (List ℕ)). (divided [] (flatten l)).parts) e
            ∙ ap (λ (words : List ℕ). (divided [] words).parts) (append-nil (line_of r ++ (13 ∷ [])))
            ∙ parts_spoken (r ∷ []);
      }
