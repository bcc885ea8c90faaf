-- What the first broken rule of a call tells, and what a burst is where no rule is broken.
use Rattle.std.proofs.Common.{◌≡◌, ℕ, zero, suc, ◌*◌, ◌≤◌, Bool, true, false, cond, eqb, List, [], ◌∷◌, length, replicate, Some, None, Option, refl, arith}
use lib.ListN.{length-replicate}
use Rattle.std.specs.List.{AllByRecursion}
use Rattle.std.proofs.lemmas.Bool.{leb-true, eqb-true}
use Rattle.cost.specs.declared.kind.Cost as cost
use Rattle.cost.proofs.Lawful.{Laws}
use Rattle.link.specs.declared.format.Format.{Format}
use Rattle.link.specs.declared.memory.Sizes.{Sizes}
use Rattle.link.specs.declared.refusal.Group.TheVariants.{Radio}
use Rattle.link.specs.Refusals.{Told, tells}
use Rattle.link.specs.Rules.{first, unless, all_such, hear_rules, miss_rules}

module _ {X : Type 0} where
  -- what is told, if anything is, has the property
  abbrev pub Tells : (X → Type 0) → Option X → Type 0
  Tells has None = Unit {0}
  Tells has (Some x) = has x

  -- a property of all that the rules tell is one of what the first broken rule tells
  first_tells : (has : X → Type 0) (rules : List (Option X)) → AllByRecursion (Tells has) rules → Tells has (first rules)
  first_tells has [] all = tt
  first_tells has (Some x ∷ rules) all = all.0
  first_tells has (None ∷ rules) all = first_tells has rules all.1

  -- a rule tells its refusal, or nothing
  unless_tells : (has : X → Type 0) (holds : Bool) (x : X) → has x → Tells has (unless holds x)
  unless_tells has true x h = tt
  unless_tells has false x h = h

  -- what holds of x holds of each in a list of nothing but x
  all_replicate : (has : X → Type 0) (n : ℕ) (x : X) → has x → AllByRecursion has (replicate n x)
  all_replicate has zero x h = tt
  all_replicate has (suc n) x h = (h, all_replicate has n x h)

  -- some is not none
  pub some_none : {x : X} → Some x ≡ None → ⊥
  some_none e = let z : ◌≡◌ {A = ℕ} 0 1 = cc in omega arith

  -- where no rule is the first broken one, none is broken
  pub first_none : (rules : List (Option X)) → first rules ≡ None → AllByRecursion (λ rule. rule ≡ None) rules
  first_none [] e = tt
  first_none (Some x ∷ rules) e = absurd (some_none e)
  first_none (None ∷ rules) e = (refl, first_none rules e)

  -- a rule that is not broken holds
  pub unless_none : (holds : Bool) (x : X) → unless holds x ≡ None → holds ≡ true
  unless_none true x e = refl
  unless_none false x e = absurd (some_none e)

-- what is told of a refusal that is not of parity
abbrev pub Uncounted : Told → Type 0
Uncounted t = eqb t.number 11 ≡ false

module _ {S : Type 0} (such : S → Bool) (by_place : ℕ → Told) where
  -- what each that is told by its place has, the first one has
  all_such_tells : (has : Told → Type 0) → ((place : ℕ) → has (by_place place)) → (place : ℕ) (xs : List S) → Tells has (all_such such by_place place xs)
  all_such_tells has each place [] = tt
  all_such_tells has each place (x ∷ xs) = by_test (such x) (all_such_tells has each (suc place) xs)
    where
      by_test : (t : Bool) → Tells has (all_such such by_place (suc place) xs) →
          Tells has (cond t (all_such such by_place (suc place) xs) (Some (by_place place)))
      by_test true h = h
      by_test false h = each place

  -- where none is told, all are such
  all_such_none : (place : ℕ) (xs : List S) → all_such such by_place place xs ≡ None → AllByRecursion (λ x. such x ≡ true) xs
  all_such_none place [] e = tt
  all_such_none place (x ∷ xs) e = by_test (such x) refl e (all_such_none (suc place) xs)
    where
      by_test : (t : Bool) → such x ≡ t → cond t (all_such such by_place (suc place) xs) (Some (by_place place)) ≡ None →
          (all_such such by_place (suc place) xs ≡ None → AllByRecursion (λ y. such y ≡ true) xs) → (such x ≡ true) × AllByRecursion (λ y. such y ≡ true) xs
      by_test true q e next = (q, next e)
      by_test false q e next = absurd (some_none e)

module _ {C S P L : Type 0} (k : cost.Ghosts C S P) (f : Format L) where
  -- a burst that a receiver can take in: it is whole and fit, and there is room for it in a ring of that size
  pub record Storable (size : ℕ) (samples : List S) : Type 0 where
    pub enough : f.depth * f.burst ≤ size
    pub whole : length samples ≡ f.burst
    pub fit : AllByRecursion (λ s. k.fit s ≡ true) samples

  -- the rules of a call that offers a burst: none is of parity, and where none is broken the burst can be taken in
  pub record Guards (size : ℕ) (samples : List S) (broken : Option Told) : Type 0 where
    pub uncounted : Tells Uncounted broken
    pub storable : broken ≡ None → Storable size samples

  module _ (lent : Sizes) (counted : ℕ) where
    -- a rule of memory or of the number of bursts or samples is not of parity
    by_rule : (holds : Bool) (t : Told) → Uncounted t → Tells Uncounted (unless holds t)
    by_rule = unless_tells Uncounted

    -- the rules of a hear
    pub hear_guards : (samples : List S) → Guards lent.ring samples (first (hear_rules k f lent counted samples))
    hear_guards samples = record {
      uncounted = first_tells Uncounted (hear_rules k f lent counted samples)
          (by_rule _ _ refl, (by_rule _ _ refl, (by_rule _ _ refl, (by_rule _ _ refl, (by_rule _ _ refl, (by_rule _ _ refl, (all_such_tells k.fit (tells 7 Radio) Uncounted (λ place. refl) 0 samples, tt)))))));
      storable = λ e. let none = first_none (hear_rules k f lent counted samples) e in record {
        enough = leb-true (f.depth * f.burst) lent.ring (unless_none _ _ none.0);
        whole = eqb-true (length samples) f.burst (unless_none _ _ none.1.1.1.1.1.0);
        fit = all_such_none k.fit (tells 7 Radio) 0 samples none.1.1.1.1.1.1.0;
      };
    }

    -- the rules of a miss, which offers a burst of nothing samples
    pub miss_guards : Laws k → Guards lent.ring (replicate f.burst k.NOTHING) (first (miss_rules f lent counted))
    miss_guards laws = record {
      uncounted = first_tells Uncounted (miss_rules f lent counted)
          (by_rule _ _ refl, (by_rule _ _ refl, (by_rule _ _ refl, (by_rule _ _ refl, (by_rule _ _ refl, tt)))));
      storable = λ e. let none = first_none (miss_rules f lent counted) e in record {
        enough = leb-true (f.depth * f.burst) lent.ring (unless_none _ _ none.0);
        whole = length-replicate f.burst k.NOTHING;
        fit = all_replicate (λ s. k.fit s ≡ true) f.burst k.NOTHING laws.nothing_fit;
      };
    }
