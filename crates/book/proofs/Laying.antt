-- The ways through the code that lays a book: numbers, bodies, entries, and the whole. Assumes nothing.
use mathlib.Core.Path.{◌≡◌, refl, sym, ◌∙◌, ap, ap₂}
use mathlib.Core.List.{List, [], ◌∷◌, ◌++◌, append_assoc}
use Prim.Native.Nat.{ℕ, suc, ◌+◌, ◌*◌, ◌-◌, ◌≤◌, ◌<◌}
use native.Mathlib.Numerals.{add-one}
use native.Mathlib.Omega.{arith}
use lib.ListN.{length, get_or, take, drop, length-append, length-drop, take-append-drop, drop_of_length-le}
use lib.Seq.{drop-cons, drop-drop, drop-append-le, length-take-le}
use Rattle.rules.specs.Numbers.Place.{stored}
use Rattle.rules.specs.Books.Book.{contents}
use Rattle.rules.specs.Books.Bytes.{two, four, word_bytes, long_bytes, entry_of, bodies_of, book_of}
use Rattle.rules.proofs.Numbers.Stored.{length_stored, stored_on, stored_past, stored_front}
use Rattle.rules.proofs.Books.ReadBack.{word_size, long_size, book_size}
use Rattle.book.specs.Room.{Room, PartRoom, with_part}

-- ---- one part after another

-- a part is laid, and what is left goes on after it
then : (goal out next rest : List ℕ) (p q : ℕ) (part : List ℕ) → stored out p (part ++ rest) ≡ goal → next ≡ stored out p part → q ≡ p + length part
    → stored next q rest ≡ goal
then goal out next rest p q part e h s = ap (λ o. stored o q rest) h ∙ stored_on out p q part rest s ∙ e

-- a body, record by record: what is left of it, laid where the loop stands, makes the whole
pub record LaidTo (before : List ℕ) (from : ℕ) (body : List ℕ) (place : ℕ) (rest out : List ℕ) : Type 0 where
  pub size : length out ≡ length before
  pub ends : place + length rest ≡ from + length body
  pub whole : stored out place rest ≡ stored before from body

module _ (before : List ℕ) (from : ℕ) (body : List ℕ) where
  pub laid_start : LaidTo before from body from body before
  laid_start = record { size = refl; ends = refl; whole = refl }

  pub laid_next : (place : ℕ) (bytes rest all out next : List ℕ) → LaidTo before from body place all out → all ≡ bytes ++ rest → next ≡ stored out place bytes
      → LaidTo before from body (place + length bytes) rest next
  laid_next place bytes rest all out next s e w = record {
    size = ap length w ∙ length_stored out place bytes ∙ s.size;
    ends = omega (arith, length-append bytes rest, ap length e, s.ends);
    whole = then (stored before from body) out next rest place (place + length bytes) bytes (ap (λ x. stored out place x) (sym e) ∙ s.whole) w refl;
  }

  pub laid_end : (place : ℕ) (out : List ℕ) → LaidTo before from body place [] out → (place ≡ from + length body) × (out ≡ stored before from body)
  unfolding stored
  laid_end place out s = (omega (arith, s.ends), s.whole)

-- the records of a body, each in so many bytes
module _ {X : Type 0} (size : ℕ) (bytes_of : X → List ℕ) (body_of : List X → List ℕ) (sized : (x : X) → length (bytes_of x) ≡ size) (none : body_of [] ≡ [])
    (more : (x : X) (xs : List X) → body_of (x ∷ xs) ≡ bytes_of x ++ body_of xs) (before : List ℕ) (from : ℕ) (records : List X) where
  -- the first i of them are laid
  abbrev pub RecordsSoFar : (i place : ℕ) → List ℕ → Type 0
  RecordsSoFar i place out = LaidTo before from (body_of records) place (body_of (drop i records)) out

  module _ (i place : ℕ) (out : List ℕ) (s : RecordsSoFar i place out) where
    module _ (x : X) (h : i < length records) (is : x ≡ get_or records i x) where
      left : body_of (drop i records) ≡ bytes_of x ++ body_of (drop (suc i) records)
      left = ap body_of (drop-cons records i x h ∙ ap (λ y. y ∷ drop (suc i) records) (sym is)) ∙ more x (drop (suc i) records)

      pub records_next : (next : List ℕ) → next ≡ stored out place (bytes_of x) → RecordsSoFar (i + 1) (place + size) next
      records_next next w = rw (add-one i, ← sized x)
          (laid_next before from (body_of records) place (bytes_of x) (body_of (drop (suc i) records)) (body_of (drop i records)) out next s left w)

    pub records_end : length records ≤ i → (place ≡ from + length (body_of records)) × (out ≡ stored before from (body_of records))
    records_end h = laid_end before from (body_of records) place out
        (rw (ap body_of (drop_of_length-le records h) ∙ none) at s)

-- an entry: kind, count, offset
pub entry_stored : (out₀ out₁ out₂ out₃ : List ℕ) (i kind count offset : ℕ) → out₁ ≡ stored out₀ i (two kind) → out₂ ≡ stored out₁ (i + 2) (two count)
    → out₃ ≡ stored out₂ (i + 4) (four offset) → out₃ ≡ stored out₀ i (entry_of kind count offset)
entry_stored out₀ out₁ out₂ out₃ i kind count offset a b c =
    c ∙ then (stored out₀ i (entry_of kind count offset)) out₁ out₂ (four offset) (i + 2) (i + 4) (two count)
    (then (stored out₀ i (entry_of kind count offset)) out₀ out₁ (two count ++ four offset) i (i + 2) (two kind) refl a refl) b (omega arith)

-- ---- part by part

with_part_length : (out next body : List ℕ) (e from n : ℕ) → next ≡ with_part out e from n body → length next ≡ length out
with_part_length out next body e from n w = ap length w ∙ length_stored (stored out from body) (e * 8) (entry_of (e + 1) n from) ∙ length_stored out from body

-- these entries stand in front and these bodies from the contents' end on; all else is as it was
abbrev LaidSoFar : List ℕ → List ℕ → List ℕ → List ℕ → Type 0
LaidSoFar before entries bodies out =
    out ≡ entries ++ (drop (length entries) (take contents before) ++ (bodies ++ drop (contents + length bodies) before))

part_laid : (before entries bodies out next body : List ℕ) (e from n : ℕ) → LaidSoFar before entries bodies out → next ≡ with_part out e from n body
    → length entries ≡ e * 8 → e < 4 → from ≡ contents + length bodies → from + length body ≤ length before
    → LaidSoFar before (entries ++ entry_of (e + 1) n from) (bodies ++ body) next
part_laid before entries bodies out next body e from n o w i h f r =
    w
    ∙ ap (λ x. stored x (e * 8) entry)
    (ap₂ (λ x k. stored x k body) o place
    ∙ stored_past entries (gap ++ (bodies ++ rest)) (length gap + (length bodies + 0)) body
    ∙ ap (λ x. entries ++ x) (stored_past gap (bodies ++ rest) (length bodies + 0) body
    ∙ ap (λ x. gap ++ x) (stored_past bodies rest 0 body ∙ ap (λ x. bodies ++ x) (stored_front rest body (omega (arith, left)))
    ∙ sym (append_assoc bodies body (drop (length body) rest)))))
    ∙ ap (λ k. stored (entries ++ (gap ++ after)) k entry) start
    ∙ stored_past entries (gap ++ after) 0 entry
    ∙ ap (λ x. entries ++ x) (stored_front (gap ++ after) entry (omega (arith, length-append gap after, space))
    ∙ ap (λ x. entry ++ x) (drop-append-le 8 gap after (omega (arith, space))))
    ∙ sym (append_assoc entries entry (drop 8 gap ++ after))
    ∙ ap₂ (λ x y. (entries ++ entry) ++ (x ++ ((bodies ++ body) ++ y))) gone past
  where
    entry : List ℕ
    entry = entry_of (e + 1) n from

    gap : List ℕ
    gap = drop (length entries) (take contents before)

    rest : List ℕ
    rest = drop (contents + length bodies) before

    after : List ℕ
    after = (bodies ++ body) ++ drop (length body) rest

    space : length gap ≡ contents - length entries
    space = length-drop (length entries) (take contents before) ∙ ap (λ k. k - length entries) (length-take-le contents before (omega (arith, f, r)))

    left : length body ≤ length rest
    left = omega (arith, length-drop (contents + length bodies) before, f, r)

    place : from ≡ length entries + (length gap + (length bodies + 0))
    place = omega (arith, space, i, f)

    start : e * 8 ≡ length entries + 0
    start = omega (arith, i)

    gone : drop 8 gap ≡ drop (length (entries ++ entry)) (take contents before)
    gone = drop-drop 8 (length entries) (take contents before) ∙ ap (λ k. drop k (take contents before)) (sym (length-append entries entry))

    size : contents + length bodies + length body ≡ contents + length (bodies ++ body)
    size = omega (arith, length-append bodies body)

    past : drop (length body) rest ≡ drop (contents + length (bodies ++ body)) before
    past = drop-drop (length body) (contents + length bodies) before ∙ ap (λ k. drop k before) size

-- the four parts, in bytes with room for them
module _ (t l u e out : List ℕ) (room : Room t l u e out) where
  abbrev a : List ℕ
  a = word_bytes t

  abbrev b : List ℕ
  b = long_bytes l

  abbrev c : List ℕ
  c = word_bytes u

  abbrev d : List ℕ
  d = long_bytes e

  sizes : (length a ≡ length t * 2) × (length b ≡ length l * 4) × (length c ≡ length u * 2) × (length d ≡ length e * 4)
      × (contents + length t * 2 + length l * 4 + length u * 2 + length e * 4 ≤ length out)
  sizes = (word_size t, long_size l, word_size u, long_size e, omega (arith, book_size t l u e, room.fits))

  pub tasks_room : PartRoom out contents (length t) a
  tasks_room = record {
    front = omega (arith, sizes.4);
    body = omega (arith, sizes.0, sizes.1, sizes.2, sizes.3, sizes.4);
    count = omega (arith, room.few.tasks);
    offset = omega arith;
  }

  module _ (p : ℕ) (after-tasks : p ≡ contents + length a) where
    pub locks_room : (o₁ : List ℕ) → o₁ ≡ with_part out 0 contents (length t) a → PartRoom o₁ p (length l) b
    locks_room o₁ w₁ = let h : length o₁ ≡ length out = with_part_length out o₁ a 0 contents (length t) w₁ in record {
      front = omega (arith, sizes.4);
      body = omega (arith, sizes.0, sizes.1, sizes.2, sizes.3, sizes.4, after-tasks);
      count = omega (arith, room.few.locks);
      offset = omega (arith, sizes.0, room.few.tasks, after-tasks);
    }

    module _ (q : ℕ) (after-locks : q ≡ p + length b) where
      pub uses_room : (o₁ o₂ : List ℕ) → o₁ ≡ with_part out 0 contents (length t) a → o₂ ≡ with_part o₁ 1 p (length l) b → PartRoom o₂ q (length u) c
      uses_room o₁ o₂ w₁ w₂ = let h : length o₂ ≡ length out = with_part_length o₁ o₂ b 1 p (length l) w₂
          ∙ with_part_length out o₁ a 0 contents (length t) w₁ in
          record {
            front = omega (arith, sizes.4);
            body = omega (arith, sizes.0, sizes.1, sizes.2, sizes.3, sizes.4, after-tasks, after-locks);
            count = omega (arith, room.few.uses);
            offset = omega (arith, sizes.0, sizes.1, room.few.tasks, room.few.locks, after-tasks, after-locks);
          }

      module _ (s : ℕ) (after-uses : s ≡ q + length c) where
        pub events_room : (o₁ o₂ o₃ : List ℕ) → o₁ ≡ with_part out 0 contents (length t) a → o₂ ≡ with_part o₁ 1 p (length l) b
            → o₃ ≡ with_part o₂ 2 q (length u) c → PartRoom o₃ s (length e) d
        events_room o₁ o₂ o₃ w₁ w₂ w₃ = let h : length o₃ ≡ length out = with_part_length o₂ o₃ c 2 q (length u) w₃ ∙ with_part_length o₁ o₂ b 1 p (length l) w₂
            ∙ with_part_length out o₁ a 0 contents (length t) w₁ in record {
              front = omega (arith, sizes.4);
              body = omega (arith, sizes.0, sizes.1, sizes.2, sizes.3, sizes.4, after-tasks, after-locks, after-uses);
              count = omega (arith, room.few.events);
              offset = omega (arith, sizes.0, sizes.1, sizes.2, room.few.tasks, room.few.locks, room.few.uses, after-tasks, after-locks, after-uses);
            }

        module _ (r : ℕ) (after-events : r ≡ s + length d) where
          pub length_laid : r ≡ length (book_of t l u e)
          length_laid = omega (arith, sizes.0, sizes.1, sizes.2, sizes.3, after-tasks, after-locks, after-uses, after-events, book_size t l u e)

          pub book_laid : (o₁ o₂ o₃ o₄ : List ℕ) → o₁ ≡ with_part out 0 contents (length t) a → o₂ ≡ with_part o₁ 1 p (length l) b
              → o₃ ≡ with_part o₂ 2 q (length u) c → o₄ ≡ with_part o₃ 3 s (length e) d → o₄ ≡ book_of t l u e ++ drop r out
          unfolding book_of
          book_laid o₁ o₂ o₃ o₄ w₁ w₂ w₃ w₄ =
              part_laid out (e₁ ++ e₂ ++ e₃) (a ++ b ++ c) o₃ o₄ d 3 s (length e)
              (part_laid out (e₁ ++ e₂) (a ++ b) o₂ o₃ c 2 q (length u)
              (part_laid out e₁ a o₁ o₂ b 1 p (length l)
              (part_laid out [] [] out o₁ a 0 contents (length t) (sym (take-append-drop contents out)) w₁ refl (omega arith) refl
              (omega (arith, sizes.0, sizes.4)))
              w₂ refl (omega arith) after-tasks (omega (arith, sizes.0, sizes.1, sizes.4, after-tasks)))
              w₃ refl (omega arith) (omega (arith, length-append a b, after-tasks, after-locks))
              (omega (arith, sizes.0, sizes.1, sizes.2, sizes.4, after-tasks, after-locks)))
              w₄ refl (omega arith) (omega (arith, length-append (a ++ b) c, length-append a b, after-tasks, after-locks, after-uses))
              (omega (arith, sizes.0, sizes.1, sizes.2, sizes.3, sizes.4, after-tasks, after-locks, after-uses))
              ∙ ap₂ (λ x y. front p q s ++ (x ++ (y ++ drop (contents + length (a ++ b ++ c ++ d)) out))) gone together
              ∙ ap (λ k. front p q s ++ (bodies_of t l u e ++ drop k out)) ending
              ∙ (λ i. front (after-tasks i) (uses_start i) (events_start i) ++ (bodies_of t l u e ++ drop r out))
            where
              -- the entries, by the places where the bodies start
              front : ℕ → ℕ → ℕ → List ℕ
              front x y z = entry_of 1 (length t) contents ++ entry_of 2 (length l) x ++ entry_of 3 (length u) y ++ entry_of 4 (length e) z

              gone : drop contents (take contents out) ≡ []
              gone = drop_of_length-le (take contents out) {i = contents} (omega (arith, length-take-le contents out (omega (arith, sizes.4))))

              together : a ++ b ++ c ++ d ≡ bodies_of t l u e
              together = append_assoc (a ++ b) c d ∙ append_assoc a b (c ++ d)

              ending : contents + length (a ++ b ++ c ++ d) ≡ r
              ending = omega (
                arith,
                length-append (a ++ b ++ c) d,
                length-append (a ++ b) c,
                length-append a b,
                after-tasks,
                after-locks,
                after-uses,
                after-events,
              )

              uses_start : q ≡ contents + length a + length b
              uses_start = omega (arith, after-tasks, after-locks)

              events_start : s ≡ contents + length a + length b + length c
              events_start = omega (arith, after-tasks, after-locks, after-uses)

              e₁ : List ℕ
              e₁ = entry_of 1 (length t) contents

              e₂ : List ℕ
              e₂ = entry_of 2 (length l) p

              e₃ : List ℕ
              e₃ = entry_of 3 (length u) q
