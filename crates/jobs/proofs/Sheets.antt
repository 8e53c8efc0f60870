-- Laws of records in space, one by one and all of them. Assumes nothing.
use mathlib.Core.Path.{◌≡◌, refl, sym, ◌∙◌, ap}
use mathlib.Core.List.{List, [], ◌∷◌, ◌++◌}
use Prim.Native.Nat.{ℕ, suc, ◌+◌, ◌*◌, ◌/◌, ◌^◌, ◌≤◌, ◌<◌}
use native.Mathlib.Nat.{add-zero}
use native.Mathlib.Omega.{arith}
use lib.Dec.{ltb}
use lib.ListN.{length, set, length-append}
use borrow.Author.Tests.{lt-ltb, le-ltb}
use Rattle.std.specs.Int.{w32, to_le_bytes}
use Rattle.rules.specs.Numbers.Place.{at, stored, tabulate}
use Rattle.rules.specs.Books.Book.{long}
use Rattle.rules.specs.Books.Bytes.{four, long_bytes}
use Rattle.rules.specs.Books.Event.{event_number}
use Rattle.rules.specs.declared.event.Event.{Event}
use Rattle.rules.proofs.Numbers.Choice.{if_true, if_false}
use Rattle.rules.proofs.Numbers.Stored.{length_stored, stored_on, four_written}
use Rattle.rules.proofs.Books.ReadBack.{read_all, read_long, long_size}
use Rattle.jobs.specs.Reader.{Answer, prepend}
use Rattle.jobs.specs.Reader.Answer.{refused, read}
use Rattle.jobs.specs.Job.{records_of}
use Rattle.jobs.specs.Sheet.{with_record, record_in, Sheet, sheet, lay, lay_all, done, tell}

-- ---- one record

module _ (s : List ℕ) (n : ℕ) where
  pub store_fits : (w : ℕ) (bytes : List ℕ) → n < length s / 4 → w < 2 ^ 32 → bytes ≡ to_le_bytes w32 w
      → set (set (set (set s (n * 4) (at bytes 0)) (n * 4 + 1) (at bytes 1)) (n * 4 + 2) (at bytes 2)) (n * 4 + 3) (at bytes 3) ≡ with_record s n w
  unfolding with_record
  store_fits w bytes l h e = four_written s bytes (n * 4) w h e ∙ sym (if_true (ltb n (length s / 4)) _ _ (lt-ltb n (length s / 4) l))

  pub store_past : (w : ℕ) → length s / 4 ≤ n → s ≡ with_record s n w
  unfolding with_record
  store_past w l = sym (if_false (ltb n (length s / 4)) _ _ (le-ltb n (length s / 4) l))

  pub read_past : length s / 4 ≤ n → 0 ≡ record_in s n
  unfolding record_in
  read_past l = sym (if_false (ltb n (length s / 4)) _ _ (le-ltb n (length s / 4) l))

  pub there : n < length s / 4 → record_in s n ≡ long s (n * 4)
  unfolding record_in
  there l = if_true (ltb n (length s / 4)) _ _ (lt-ltb n (length s / 4) l)

-- ---- a sheet

pub laid : (s s' : List ℕ) (n w : ℕ) (e : Event) → s' ≡ with_record s n w → w ≡ event_number e → sheet s' (n + 1) ≡ lay (sheet s n) e
unfolding lay
laid s s' n w e h g = ap (λ x. sheet x (n + 1)) (h ∙ ap (with_record s n) g)

lay_on : (p : Sheet) (es fs : List Event) → lay_all p (es ++ fs) ≡ lay_all (lay_all p es) fs
unfolding lay_all
lay_on p [] fs = refl
lay_on p (e ∷ es) fs = lay_on (lay p e) es fs

tell_on : (p : Sheet) (es : List Event) (r : Answer) → tell p (prepend es r) ≡ tell (lay_all p es) r
unfolding tell prepend
tell_on p es (refused rest) = refl
tell_on p es (read fs) = ap done (lay_on p es fs)

pub tell_one : (p q : Sheet) (e : Event) (r : Answer) → q ≡ lay p e → tell p (prepend (e ∷ []) r) ≡ tell q r
unfolding lay_all
tell_one p q e r h = tell_on p (e ∷ []) r ∙ ap (λ x. tell x r) (sym h)

-- ---- all records

pub lay_count : (es : List Event) (p : Sheet) → (lay_all p es).count ≡ p.count + length es
unfolding lay_all lay
lay_count [] p = sym (add-zero p.count)
lay_count (e ∷ es) p = lay_count es (lay p e) ∙ omega arith

-- where they fit
pub lay_fits : (es : List Event) (s : List ℕ) (n : ℕ) → (n + length es) * 4 ≤ length s
    → lay_all (sheet s n) es ≡ sheet (stored s (n * 4) (records_of es)) (n + length es)
unfolding lay_all lay with_record long_bytes stored
lay_fits [] s n l = ap (sheet s) (sym (add-zero n))
lay_fits (e ∷ es) s n l =
    let t : List ℕ = stored s (n * 4) (four (event_number e)) in
    let k : n + 1 + length es ≡ n + suc (length es) = omega arith in
    ap (λ p. lay_all p es) (fits (omega arith))
    ∙ lay_fits es t (n + 1) (omega (arith, length_stored s (n * 4) (four (event_number e))))
    ∙ ap (sheet (stored t ((n + 1) * 4) (records_of es))) k
    ∙ ap (λ x. sheet x (n + suc (length es))) (stored_on s (n * 4) ((n + 1) * 4) (four (event_number e)) (records_of es) (omega arith))
  where
    fits : n < length s / 4 → lay (sheet s n) e ≡ sheet (stored s (n * 4) (four (event_number e))) (n + 1)
    fits h = ap (λ x. sheet x (n + 1)) (if_true (ltb n (length s / 4)) _ _ (lt-ltb n (length s / 4) h))

-- records at the start of space, read again
pub records_back : (ws rest : List ℕ) → tabulate (length ws) (record_in (long_bytes ws ++ rest)) ≡ ws
records_back ws rest = read_all 0 ws (record_in (long_bytes ws ++ rest)) one
  where
    one : (i : ℕ) → i < length ws → record_in (long_bytes ws ++ rest) i ≡ at ws i
    one i l = there (long_bytes ws ++ rest) i (omega (arith, length-append (long_bytes ws) rest, long_size ws)) ∙ read_long ws rest i l
