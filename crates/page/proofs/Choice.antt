-- Laws of a choice by a test of two numbers, as the code tests them. Assumes nothing.
use Rattle.std.specs.Prelude.{if◌then◌else◌}
use mathlib.Core.Path.{◌≡◌}
use Prim.Native.Nat.{ℕ, ◌≤◌, ◌<◌}
use lib.Dec.{eqb, ltb}
use borrow.Author.Tests.{lt-ltb, le-ltb, eq-eqb, ne_eqb}
use Rattle.rules.proofs.Numbers.Choice.{if_true, if_false}

pub when_same : {A : Type 0} (a b : ℕ) (x y : A) → a ≡ b → (if eqb a b then x else y) ≡ x
when_same a b x y e = if_true (eqb a b) x y (eq-eqb a b e)

pub when_other : {A : Type 0} (a b : ℕ) (x y : A) → (a ≡ b → ⊥) → (if eqb a b then x else y) ≡ y
when_other a b x y n = if_false (eqb a b) x y (ne_eqb a b n)

pub when_below : {A : Type 0} (a b : ℕ) (x y : A) → a < b → (if ltb a b then x else y) ≡ x
when_below a b x y l = if_true (ltb a b) x y (lt-ltb a b l)

pub when_past : {A : Type 0} (a b : ℕ) (x y : A) → b ≤ a → (if ltb a b then x else y) ≡ y
when_past a b x y l = if_false (ltb a b) x y (le-ltb a b l)

pub ruleset choosing = (when_same, when_other, when_below, when_past)
