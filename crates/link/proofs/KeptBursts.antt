-- The ring keeps the last bursts counted, so what is due to a block can be read in the ring as in the list of bursts.
use Rattle.std.proofs.Common.{◌≡◌, ℕ, ◌+◌, ◌<◌, ◌≤◌, Bool, true, ltb, List, [], ◌∷◌, ◌++◌, length, get_or, Some, None, Option, sym, ap, ◌∙◌, inl, inr, arith}
use mathlib.Core.Path.{fun_ext}
use Rattle.std.specs.List.{AllByRecursion}
use Rattle.std.proofs.lemmas.Nat.{mod_below}
use Rattle.std.proofs.ByRecursion.{All-get_or, All-append}
use Rattle.std.proofs.lemmas.List.{get_or_append_left, get_or_past, get_or_push, length_push}
use Rattle.std.proofs.lemmas.Bool.{cases_eq, cases_lt, cond-true, cond-false, lt-ltb, le-ltb}
use Rattle.cost.specs.declared.kind.Cost as cost
use Rattle.cost.proofs.Lawful.{Laws}
use Rattle.line.specs.declared.laying.Line as line
use Rattle.trellis.specs.Met.{weighed, Fit}
use Rattle.link.specs.declared.format.Format.{Format}
use Rattle.link.specs.Due.{burst_of, cell, stored, placed, met_on, in_ring, in_bursts}
use Rattle.link.specs.Histories.{WholeBursts}
use Rattle.link.proofs.FirstRule.{Storable}
use Rattle.link.proofs.Rings.{stored_own, stored_other}

-- what is met is fit where all that is due is
pub met_fit : {C S P L : Type 0} (k : cost.Ghosts C S P) (l : line.Ghosts L) (x : L) (due : ℕ → S) → ((p : ℕ) → k.fit (due p) ≡ true) → Fit k (met_on l x due)
met_fit k l x due fit j = by_place (l.place x j)
  where
    by_place : (at : Option (ℕ × Bool)) → AllByRecursion (λ m. k.fit m.0 ≡ true) (placed due at)
    by_place None = tt
    by_place (Some (p, turned)) = (fit p, tt)

module _ {C S P L : Type 0} (k : cost.Ghosts C S P) (l : line.Ghosts L) (f : Format L) where
  -- a whole burst of fit samples
  abbrev Whole : List S → Type 0
  Whole burst = (length burst ≡ f.burst) × AllByRecursion (λ s. k.fit s ≡ true) burst

  -- every burst counted is whole and fit, and the ring keeps the last `depth` of them
  pub record Keeps (ring : List S) (bursts : List (List S)) : Type 0 where
    pub whole : WholeBursts k l f bursts
    pub last : (i p : ℕ) → i < length bursts → length bursts ≤ i + f.depth → p < f.burst →
        get_or ring (cell f i p) k.NOTHING ≡ get_or (get_or bursts i []) p k.NOTHING

  -- any ring keeps the bursts of a receiver that has counted none
  pub keeps_none : (ring : List S) → Keeps ring []
  keeps_none ring = record { whole = tt; last = λ i p h near inside. absurd (omega arith) }

  -- a ring in which the next burst is stored keeps that too
  pub keeps_more : (ring : List S) (bursts : List (List S)) (samples : List S) → Keeps ring bursts → Storable k f (length ring) samples →
      Keeps (stored f (length bursts) samples ring) (bursts ++ (samples ∷ []))
  keeps_more ring bursts samples old new = record {
    whole = All-append Whole bursts (samples ∷ []) old.whole ((new.whole, new.fit), tt);
    last = λ i p h near inside. last_more i p (simp length_push at h) (simp length_push at near) inside;
  }
    where
      last_more : (i p : ℕ) → i < length bursts + 1 → length bursts + 1 ≤ i + f.depth → p < f.burst →
          get_or (stored f (length bursts) samples ring) (cell f i p) k.NOTHING ≡ get_or (get_or (bursts ++ (samples ∷ [])) i []) p k.NOTHING
      last_more i p h near inside = elim (cases_eq i (length bursts)) [
        | inl e ↦
            ap (λ j. get_or (stored f (length bursts) samples ring) (cell f j p) k.NOTHING) e
            ∙ stored_own f (length bursts) samples ring k.NOTHING new.whole new.enough p inside
            ∙ ap (λ burst. get_or burst p k.NOTHING) (sym (get_or_push bursts samples [] i (sym e)))
        | inr ne ↦
            stored_other f (length bursts) samples ring k.NOTHING new.whole new.enough i p (omega arith) (omega arith) inside
            ∙ old.last i p (omega arith) (omega arith) inside
            ∙ ap (λ burst. get_or burst p k.NOTHING) (sym (get_or_append_left bursts (samples ∷ []) [] i (omega arith)))
      ]

  -- what is due to a block whose last burst is the last one counted is read in the ring as in the list of bursts
  pub due_same : (ring : List S) (bursts : List (List S)) → Keeps ring bursts → (b : ℕ) → b + f.depth ≡ length bursts →
      in_ring k f ring b ≡ in_bursts k f bursts b
  due_same ring bursts keeps b ends = fun_ext (λ p. elim (cases_lt p f.burst) [ inl h ↦ inside p h | inr h ↦ past p h ])
    where
      among : (p : ℕ) → burst_of f b p < length bursts
      among p = let low = mod_below p f.depth f.least_depth in omega arith

      whole_at : (p : ℕ) → Whole (get_or bursts (burst_of f b p) [])
      whole_at p = All-get_or Whole bursts (burst_of f b p) [] (among p) keeps.whole

      inside : (p : ℕ) → p < f.burst → in_ring k f ring b p ≡ in_bursts k f bursts b p
      inside p h =
          let read = keeps.last (burst_of f b p) p (among p) (omega arith) h in
          let fit = All-get_or (λ s. k.fit s ≡ true) (get_or bursts (burst_of f b p) []) p k.NOTHING (let e = (whole_at p).0 in omega arith) (whole_at p).1 in
          cond-true (ltb p f.burst) _ _ (lt-ltb p f.burst h) ∙ ap (weighed k) read ∙ cond-true (k.fit (in_bursts k f bursts b p)) _ _ fit

      past : (p : ℕ) → f.burst ≤ p → in_ring k f ring b p ≡ in_bursts k f bursts b p
      past p h =
          cond-false (ltb p f.burst) _ _ (le-ltb p f.burst h)
          ∙ sym (get_or_past (get_or bursts (burst_of f b p) []) p k.NOTHING (let e = (whole_at p).0 in omega arith))

  -- whatever is due in whole bursts is fit
  pub due_fit : Laws k → (bursts : List (List S)) → WholeBursts k l f bursts → (b p : ℕ) → k.fit (in_bursts k f bursts b p) ≡ true
  due_fit laws bursts whole b p = elim (cases_lt (burst_of f b p) (length bursts)) [ inl h ↦ among h | inr h ↦ beyond h ]
    where
      beyond : length bursts ≤ burst_of f b p → k.fit (in_bursts k f bursts b p) ≡ true
      beyond h = ap (λ burst. k.fit (get_or burst p k.NOTHING)) (get_or_past bursts (burst_of f b p) [] h) ∙ laws.nothing_fit

      among : burst_of f b p < length bursts → k.fit (in_bursts k f bursts b p) ≡ true
      among h = elim (cases_lt p (length (get_or bursts (burst_of f b p) []))) [
        | inl q ↦ All-get_or (λ s. k.fit s ≡ true) (get_or bursts (burst_of f b p) []) p k.NOTHING q (All-get_or Whole bursts (burst_of f b p) [] h whole).1
        | inr q ↦ ap k.fit (get_or_past (get_or bursts (burst_of f b p) []) p k.NOTHING q) ∙ laws.nothing_fit
      ]
