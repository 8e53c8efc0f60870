-- The records of an accepted book of bytes make that book again. Assumes nothing.
use Rattle.std.specs.Prelude.{Ok}
use mathlib.Core.Path.{◌≡◌, refl, sym, ◌∙◌, ap, ap₂}
use mathlib.Core.Bool.{not}
use mathlib.Core.List.{List, [], ◌∷◌, ◌++◌, append_assoc, append-nil}
use Prim.Native.Nat.{ℕ, zero, suc, ◌+◌, ◌*◌, ◌/◌, ◌%◌, ◌≤◌, ◌<◌}
use native.Mathlib.Nat.{add-zero}
use native.Mathlib.Omega.{arith}
use lib.Dec.{eqb, ltb}
use lib.ListN.{length, drop, drop_of_length-le}
use lib.Seq.{drop-cons}
use borrow.Author.Tests.{lt-ltb, eqb-true, not-false}
use Rattle.rules.specs.Numbers.Place.{at, from}
use Rattle.rules.specs.Numbers.Refusal.{number_of, first_fault, check_for}
use Rattle.rules.specs.Books.Book.{word, long, contents, kind_at, count_at, offset_at, size_of, body_at, layout_fault, tasks_of, locks_of, uses_of}
use Rattle.rules.specs.Books.Book.{event_numbers_of, contents_checks}
use Rattle.rules.specs.Books.Bytes.{two, four, word_bytes, long_bytes, entry_of, bodies_of, book_of, Bytes}
use Rattle.rules.specs.declared.refusal.Refusal.TheVariants.{WrongLayout}
use Rattle.rules.proofs.Numbers.Choice.{if_true, or_false}
use Rattle.rules.proofs.Numbers.Place.{length_from}
use Rattle.rules.proofs.Numbers.Checks.{clean_for}
use Rattle.rules.proofs.Books.ReadBack.{word_size, long_size}

-- the bytes of a number of two halves, and those of the halves
halves : (x y : ℕ) → x < 65536 → ((x + y * 65536) % 256 ≡ x % 256) × ((x + y * 65536) / 256 % 256 ≡ x / 256) × ((x + y * 65536) / 65536 % 256 ≡ y % 256)
    × ((x + y * 65536) / 16777216 ≡ y / 256)
halves x y h =
    let second : (x + y * 65536) / 256 ≡ x / 256 + y * 256 = omega arith in
    let third : (x + y * 65536) / 65536 ≡ y = omega arith in
    (omega arith, omega (arith, second), ap (λ n. n % 256) third, omega arith)

module _ (b : List ℕ) (bytes : Bytes b) where
  -- ---- numbers that lie in b make its bytes again

  two_again : (p : ℕ) → p + 1 < length b → two (word b p) ++ drop (p + 2) b ≡ drop p b
  two_again p h =
      let low : word b p % 256 ≡ at b p = omega (arith, bytes p, bytes (p + 1)) in
      let high : word b p / 256 ≡ at b (p + 1) = omega (arith, bytes p, bytes (p + 1)) in
      let s : suc p ≡ p + 1 = omega arith in
      let t : suc (p + 1) ≡ p + 2 = omega arith in
      ap₂ (λ x y. x ∷ y ∷ drop (p + 2) b) low high
      ∙ sym (drop-cons b p 0 (omega arith) ∙ ap (λ k. at b p ∷ drop k b) s ∙ ap (λ xs. at b p ∷ xs) (drop-cons b (p + 1) 0 h
      ∙ ap (λ k. at b (p + 1) ∷ drop k b) t))

  four_again : (p : ℕ) → p + 3 < length b → four (long b p) ++ drop (p + 4) b ≡ drop p b
  four_again p h =
      let (first, second, third, fourth) = halves (word b p) (word b (p + 2)) (omega (arith, bytes p, bytes (p + 1))) in
      let s : p + 4 ≡ p + 2 + 2 = omega arith in
      (λ i. first i ∷ second i ∷ third i ∷ fourth i ∷ drop (s i) b)
      ∙ ap (λ xs. two (word b p) ++ xs) (two_again (p + 2) (omega arith)) ∙ two_again p (omega arith)

  -- records k to k + n - 1 of a body, and what follows them: record k lies at `place k`, its number is `number k`, and `all` lays numbers as `one` does each
  module _ (all : List ℕ → List ℕ) (one : ℕ → List ℕ) (none : all [] ≡ []) (more : (w : ℕ) (ws : List ℕ) → all (w ∷ ws) ≡ one w ++ all ws)
      (place number : ℕ → ℕ) where
    records_again : (k n : ℕ) → ((i : ℕ) → i < k + n → one (number i) ++ drop (place (suc i)) b ≡ drop (place i) b)
        → all (from number k n) ++ drop (place (k + n)) b ≡ drop (place k) b
    unfolding from
    records_again k zero h = ap₂ (λ xs m. xs ++ drop (place m) b) none (add-zero k)
    records_again k (suc n) h =
        let e : k + suc n ≡ suc k + n = omega arith in
        ap₂ (λ xs m. xs ++ drop (place m) b) (more (number k) (from number (suc k) n)) e
        ∙ append_assoc (one (number k)) (all (from number (suc k) n)) (drop (place (suc k + n)) b)
        ∙ ap (λ xs. one (number k) ++ xs) (records_again (suc k) n (λ i l. h i (omega arith)))
        ∙ h k (omega arith)

  -- the whole of a body, and what follows it
  word_body : (p q n : ℕ) → q ≡ p + n * 2 → q ≤ length b → word_bytes (from (λ i. word b (p + i * 2)) 0 n) ++ drop q b ≡ drop p b
  unfolding word_bytes
  word_body p q n e h =
      let s : q ≡ p + (0 + n) * 2 = omega (arith, e) in
      let t : p + 0 * 2 ≡ p = omega arith in
      ap (λ k. word_bytes (from (λ i. word b (p + i * 2)) 0 n) ++ drop k b) s
      ∙ records_again word_bytes two refl (λ w ws. refl) (λ i. p + i * 2) (λ i. word b (p + i * 2)) 0 n
      (λ i l. let m : p + suc i * 2 ≡ p + i * 2 + 2 = omega arith in ap (λ k. two (word b (p + i * 2)) ++ drop k b) m
      ∙ two_again (p + i * 2) (omega (arith, h, e, l)))
      ∙ ap (λ k. drop k b) t

  long_body : (p q n : ℕ) → q ≡ p + n * 4 → q ≤ length b → long_bytes (from (λ i. long b (p + i * 4)) 0 n) ++ drop q b ≡ drop p b
  unfolding long_bytes
  long_body p q n e h =
      let s : q ≡ p + (0 + n) * 4 = omega (arith, e) in
      let t : p + 0 * 4 ≡ p = omega arith in
      ap (λ k. long_bytes (from (λ i. long b (p + i * 4)) 0 n) ++ drop k b) s
      ∙ records_again long_bytes four refl (λ w ws. refl) (λ i. p + i * 4) (λ i. long b (p + i * 4)) 0 n
      (λ i l. let m : p + suc i * 4 ≡ p + i * 4 + 4 = omega arith in ap (λ k. four (long b (p + i * 4)) ++ drop k b) m
      ∙ four_again (p + i * 4) (omega (arith, h, e, l)))
      ∙ ap (λ k. drop k b) t

  -- an entry, and what follows it
  entry_again : (p : ℕ) → p + 7 < length b → entry_of (word b p) (word b (p + 2)) (long b (p + 4)) ++ drop (p + 8) b ≡ drop p b
  entry_again p h =
      let s : p + 8 ≡ p + 4 + 4 = omega arith in
      let t : p + 4 ≡ p + 2 + 2 = omega arith in
      ap (λ k. entry_of (word b p) (word b (p + 2)) (long b (p + 4)) ++ drop k b) s
      ∙ ap (λ xs. two (word b p) ++ (two (word b (p + 2)) ++ xs)) (four_again (p + 4) (omega arith) ∙ ap (λ k. drop k b) t)
      ∙ ap (λ xs. two (word b p) ++ xs) (two_again (p + 2) (omega arith))
      ∙ two_again p (omega arith)

  -- ---- the whole book, whose contents pass

  module _ (passed : first_fault (contents_checks b) ≡ Ok tt) where
    -- 3 finds nothing
    entries : (e : ℕ) → e < 4 → (kind_at b e ≡ e + 1) × (offset_at b e ≡ body_at b e)
    unfolding contents_checks check_for number_of layout_fault
    entries e h =
        let (k, o) = or_false (not (eqb (kind_at b e) (e + 1))) (not (eqb (offset_at b e) (body_at b e)))
        (sym (if_true (ltb e 4) _ _ (lt-ltb e 4 h)) ∙ clean_for (contents_checks b) passed WrongLayout e (omega arith)) in
        (eqb-true (kind_at b e) (e + 1) (not-false _ k), eqb-true (offset_at b e) (body_at b e) (not-false _ o))

    ends : body_at b 4 ≡ length b
    unfolding contents_checks check_for number_of layout_fault
    ends = eqb-true (body_at b 4) (length b) (not-false _ (clean_for (contents_checks b) passed WrongLayout 4 (omega arith)))

    start : body_at b 0 ≡ contents
    unfolding body_at
    start = refl

    -- each body ends where the next one starts
    spans : (body_at b 1 ≡ contents + count_at b 0 * 2) × (body_at b 2 ≡ body_at b 1 + count_at b 1 * 4) × (body_at b 3 ≡ body_at b 2 + count_at b 2 * 2)
        × (length b ≡ body_at b 3 + count_at b 3 * 4)
    unfolding body_at size_of
    spans = (refl, refl, refl, sym ends)

    bodies : bodies_of (tasks_of b) (locks_of b) (uses_of b) (event_numbers_of b) ≡ drop contents b
    bodies =
        ap (λ xs. word_bytes (tasks_of b) ++ (long_bytes (locks_of b) ++ (word_bytes (uses_of b) ++ xs))) last
        ∙ ap (λ xs. word_bytes (tasks_of b) ++ (long_bytes (locks_of b) ++ xs))
        (word_body (body_at b 2) (body_at b 3) (count_at b 2) spans.2 (omega (arith, spans.3)))
        ∙ ap (λ xs. word_bytes (tasks_of b) ++ xs) (long_body (body_at b 1) (body_at b 2) (count_at b 1) spans.1 (omega (arith, spans.2, spans.3)))
        ∙ word_body (body_at b 0) (body_at b 1) (count_at b 0) (omega (arith, start, spans.0)) (omega (arith, spans.1, spans.2, spans.3))
        ∙ ap (λ k. drop k b) start
      where
        last : long_bytes (event_numbers_of b) ≡ drop (body_at b 3) b
        last = sym (append-nil (long_bytes (event_numbers_of b)))
            ∙ ap (λ xs. long_bytes (event_numbers_of b) ++ xs) (sym (drop_of_length-le b {i = length b} (omega arith)))
            ∙ long_body (body_at b 3) (length b) (count_at b 3) spans.3 (omega arith)

    pub book_again : book_of (tasks_of b) (locks_of b) (uses_of b) (event_numbers_of b) ≡ b
    unfolding book_of
    book_again =
        (λ i. entry_of (kind 0 (omega arith) i) (n i) (o i) ++ (entry_of (kind 1 (omega arith) i) (m i) (p i)
        ++ (entry_of (kind 2 (omega arith) i) (u i) (q i) ++ entry_of (kind 3 (omega arith) i) (k i) (r i))) ++ bodies i)
        ∙ ap (λ xs. first 0 ++ (first 8 ++ (first 16 ++ xs))) (entry_again 24 (omega (arith, whole)))
        ∙ ap (λ xs. first 0 ++ (first 8 ++ xs)) (entry_again 16 (omega (arith, whole)))
        ∙ ap (λ xs. first 0 ++ xs) (entry_again 8 (omega (arith, whole)))
        ∙ entry_again 0 (omega (arith, whole))
      where
        first : ℕ → List ℕ
        first p = entry_of (word b p) (word b (p + 2)) (long b (p + 4))

        whole : contents ≤ length b
        whole = omega (arith, spans.0, spans.1, spans.2, spans.3)

        kind : (e : ℕ) → e < 4 → e + 1 ≡ kind_at b e
        kind e h = sym (entries e h).0

        n : length (tasks_of b) ≡ count_at b 0
        n = length_from _ 0 (count_at b 0)

        m : length (locks_of b) ≡ count_at b 1
        m = length_from _ 0 (count_at b 1)

        u : length (uses_of b) ≡ count_at b 2
        u = length_from _ 0 (count_at b 2)

        k : length (event_numbers_of b) ≡ count_at b 3
        k = length_from _ 0 (count_at b 3)

        o : contents ≡ offset_at b 0
        o = sym ((entries 0 (omega arith)).1 ∙ start)

        p : contents + length (word_bytes (tasks_of b)) ≡ offset_at b 1
        p = omega (arith, (entries 1 (omega arith)).1, spans.0, word_size (tasks_of b), n)

        q : contents + length (word_bytes (tasks_of b)) + length (long_bytes (locks_of b)) ≡ offset_at b 2
        q = omega (arith, (entries 2 (omega arith)).1, spans.0, spans.1, word_size (tasks_of b), long_size (locks_of b), n, m)

        r : contents + length (word_bytes (tasks_of b)) + length (long_bytes (locks_of b)) + length (word_bytes (uses_of b)) ≡ offset_at b 3
        r = omega (
          arith,
          (entries 3 (omega arith)).1,
          spans.0,
          spans.1,
          spans.2,
          word_size (tasks_of b),
          long_size (locks_of b),
          word_size (uses_of b),
          n,
          m,
          u,
        )
