-- Every history of a receiver is sound: each call keeps an invariant, and from the invariant the next call does what is claimed.
use Rattle.std.proofs.Common.{◌≡◌, ◌+◌, Bool, true, false, cond, not, eqb, List, [], ◌∷◌, ◌++◌, length, Some, None, Ok, Option, sym, refl, ap, ◌∙◌, subst, inl, inr}
use Rattle.std.proofs.lemmas.List.{length_push}
use Rattle.std.proofs.lemmas.Bool.{cond-true, cond-false, ne_eqb}
use Rattle.cost.specs.declared.kind.Cost as cost
use Rattle.cost.proofs.Lawful.{Laws}
use Rattle.line.specs.declared.laying.Line as line
use Rattle.link.specs.declared.format.Format.{Format}
use Rattle.link.specs.declared.receiver.Receiver.{Receiver}
use Rattle.link.specs.declared.refusal.Group.TheVariants.{Host}
use Rattle.link.specs.Calls.{Memory, sizes, Reply, Takes, Judges, silence}
use Rattle.link.specs.Histories.{counts, counting, History, begun, heard, missed, stole, restarted, Sound, AllSound}
use Rattle.link.specs.Outcomes.{Outcome, outcome}
use Rattle.link.specs.Refusals.{Told, tells, refusal}
use Rattle.link.specs.Rules.{first, unless, hear_rules, miss_rules, stolen_rules}
use Rattle.link.proofs.FirstRule.{Uncounted, Storable, Guards, hear_guards, miss_guards, some_none}
use Rattle.link.proofs.KeptBursts.{Keeps, keeps_none, keeps_more}
use Rattle.link.proofs.Parity.{Widths}
use Rattle.link.proofs.Replies.{Taken, Replied, refused_counts, refused_tells, taken, replied, replied_counts, replied_refuses, replied_timely, replied_waits, taken_best}

module _ {C S P L : Type 0} {k : cost.Ghosts C S P} (laws : Laws k) (l : line.Ghosts L) where
  -- what every history leaves: a receiver of the same format that has counted the bursts, and a ring that keeps the last of them
  record Invariant (f : Format L) (r : Receiver C L S P) (ring : List S) (bursts : List (List S)) : Type 0 where
    format : r.format ≡ f
    counted : r.counted ≡ length bursts
    keeps : Keeps k l f ring bursts

  -- one call that offers a burst
  module _ (f : Format L) (samples : List S) (bursts : List (List S)) (r r' : Receiver C L S P) (m m' : Memory S P) (reply : Reply k l)
      (before : Invariant f r m.ring bursts) where
    -- a refusal that is not of parity counts nothing
    refused_counting : (t : Told) → Uncounted t → refusal reply ≡ Some t → counting k l reply samples bursts ≡ bursts
    refused_counting t other e = cond-false (counts k l reply) (bursts ++ (samples ∷ [])) bursts (refused_counts k l reply t other e)

    -- nor tells anything
    refused_nothing : (t : Told) (o : Outcome C) → Uncounted t → refusal reply ≡ Some t → outcome reply ≡ Some o → ⊥
    refused_nothing t o other e q = some_none (sym q ∙ refused_tells k l reply t other e)

    module _ (takes : Takes k l samples r m reply r' m') where
      -- what a call that takes the burst in does
      taken_here : Taken k l f (length bursts) samples m reply m'
      taken_here = taken k l f (length bursts) samples r r' m m' reply before.format before.counted takes

      -- what it replies
      replied_here : Replied k l f (length bursts) reply
      replied_here = replied k l f (length bursts) samples m m' reply taken_here

      -- it counts the burst
      taken_counting : counting k l reply samples bursts ≡ bursts ++ (samples ∷ [])
      taken_counting = cond-true (counts k l reply) (bursts ++ (samples ∷ [])) bursts (replied_counts k l f (length bursts) reply replied_here)

      -- and the ring that it leaves keeps the burst
      taken_keeps : Storable k f (length m.ring) samples → Keeps k l f m'.ring (bursts ++ (samples ∷ []))
      taken_keeps storable =
          subst (λ ring. Keeps k l f ring (bursts ++ (samples ∷ []))) (sym taken_here.ring) (keeps_more k l f m.ring bursts samples before.keeps storable)

    -- the call keeps the invariant
    judged_invariant : (rules : Option Told) → Guards k f (length m.ring) samples rules → Judges k l rules samples r m reply r' m' →
        Invariant f r' m'.ring (counting k l reply samples bursts)
    judged_invariant (Some t) guards refuses =
        subst (Invariant f r' m'.ring) (sym (refused_counting t guards.uncounted refuses.replied)) (record {
          format = ap (λ y. y.format) refuses.receiver ∙ before.format;
          counted = ap (λ y. y.counted) refuses.receiver ∙ before.counted;
          keeps = subst (λ n. Keeps k l f n.ring bursts) (sym refuses.memory) before.keeps;
        })
    judged_invariant None guards takes =
        subst (Invariant f r' m'.ring) (sym (taken_counting takes)) (record {
          format = takes.counts.format ∙ before.format;
          counted = takes.counts.counted ∙ ap (λ n. n + 1) before.counted ∙ sym (length_push bursts samples);
          keeps = taken_keeps takes (guards.storable refl);
        })

    -- and does what is claimed
    judged_sound : Widths f.parity → (rules : Option Told) → Guards k f (length m.ring) samples rules → Judges k l rules samples r m reply r' m' →
        Sound k l f rules samples bursts r m reply r' m'
    judged_sound widths (Some t) guards refuses = record {
      refused = λ u e. (refuses.replied ∙ e, refuses.receiver, refuses.memory, refused_counting t guards.uncounted refuses.replied);
      only = λ u e. inl (sym refuses.replied ∙ e);
      accepted = λ e. absurd (some_none e);
      waits = λ e. absurd (some_none e);
      waits_only = λ burst e. absurd (refused_nothing t _ guards.uncounted refuses.replied e);
      decides = λ e. absurd (some_none e);
      frees = λ e. absurd (some_none e);
      timely = λ b cost heard e. absurd (refused_nothing t _ guards.uncounted refuses.replied e);
    }
    judged_sound widths None guards takes = record {
      refused = λ u e. absurd (some_none (sym e));
      only = λ u e. inr (replied_refuses k l f (length bursts) reply (replied_here takes) u e);
      accepted = λ e. taken_counting takes;
      waits = λ e. (taken_here takes).waits;
      waits_only = λ burst e. let now = replied_waits k l f (length bursts) reply (replied_here takes) burst e in (refl, now.0, now.1);
      decides = λ e. taken_best k l laws f widths bursts samples m m' reply (taken_here takes) (taken_keeps takes (guards.storable refl));
      frees = λ e. (taken_here takes).frees;
      timely = λ b cost heard e. (refl, replied_timely k l f (length bursts) reply (replied_here takes) b cost heard e);
    }

  module _ (opened : Receiver C L S P) where
    -- after a history the rules of a hear guard by the format that was opened
    hear_guarded : (r : Receiver C L S P) (m : Memory S P) (samples : List S) → r.format ≡ opened.format →
        Guards k opened.format (length m.ring) samples (first (hear_rules k r.format (sizes m) r.counted samples))
    hear_guarded r m samples same =
        subst (λ f. Guards k f (length m.ring) samples (first (hear_rules k r.format (sizes m) r.counted samples))) same
        (hear_guards k r.format (sizes m) r.counted samples)

    -- and those of a miss
    miss_guarded : (r : Receiver C L S P) (m : Memory S P) → r.format ≡ opened.format →
        Guards k opened.format (length m.ring) (silence k l r.format) (first (miss_rules r.format (sizes m) r.counted))
    miss_guarded r m same =
        subst (λ f. Guards k f (length m.ring) (silence k l r.format) (first (miss_rules r.format (sizes m) r.counted))) same
        (miss_guards k r.format (sizes m) r.counted laws)

    -- every history leaves the invariant
    invariant : opened.counted ≡ 0 → (r : Receiver C L S P) (ring : List S) (bursts : List (List S)) →
        History k l opened r ring bursts → Invariant opened.format r ring bursts
    invariant fresh _ ring _ (begun _) = record { format = refl; counted = fresh; keeps = keeps_none k l opened.format ring }
    invariant fresh _ _ _ (heard r r' bursts samples m m' reply past hears) =
        let before = invariant fresh r m.ring bursts past in
        judged_invariant opened.format samples bursts r r' m m' reply before
        (first (hear_rules k r.format (sizes m) r.counted samples)) (hear_guarded r m samples before.format) hears
    invariant fresh _ _ _ (missed r r' bursts m m' reply past misses) =
        let before = invariant fresh r m.ring bursts past in
        judged_invariant opened.format (silence k l r.format) bursts r r' m m' reply before
        (first (miss_rules r.format (sizes m) r.counted)) (miss_guarded r m before.format) misses
    invariant fresh _ ring bursts (stole r r' _ _ reply past steals) =
        subst (λ y. Invariant opened.format y ring bursts) (sym steals.receiver) (invariant fresh r ring bursts past)
    invariant fresh _ ring _ (restarted r r' _ bursts past restarts) = record {
      format = restarts.format ∙ (invariant fresh r ring bursts past).format;
      counted = restarts.counted;
      keeps = keeps_none k l opened.format ring;
    }

  -- what refuses a stolen burst, by whether one burst carries the block
  stolen_rule : (alone : Bool) → first (unless (not alone) (tells 8 Host 0) ∷ []) ≡ cond alone (Some (tells 8 Host 0)) None
  stolen_rule true = refl
  stolen_rule false = refl

  -- every history of a receiver that was opened is sound
  pub all_sound : (opened : Receiver C L S P) → Widths opened.format.parity → opened.counted ≡ 0 → AllSound k l opened
  all_sound opened widths fresh = record {
    hears = λ r r' bursts samples m m' reply past hears.
        let before = invariant opened fresh r m.ring bursts past in
        subst (λ rules. Sound k l opened.format rules samples bursts r m reply r' m') (λ i. first (hear_rules k (before.format i) (sizes m) (before.counted i) samples))
        (judged_sound opened.format samples bursts r r' m m' reply before widths
        (first (hear_rules k r.format (sizes m) r.counted samples)) (hear_guarded opened r m samples before.format) hears);
    misses = λ r r' bursts m m' reply past misses.
        let before = invariant opened fresh r m.ring bursts past in
        subst (λ samples. Sound k l opened.format (first (miss_rules opened.format (sizes m) (length bursts))) samples bursts r m reply r' m') (ap (silence k l) before.format)
        (subst (λ rules. Sound k l opened.format rules (silence k l r.format) bursts r m reply r' m') (λ i. first (miss_rules (before.format i) (sizes m) (before.counted i)))
        (judged_sound opened.format (silence k l r.format) bursts r r' m m' reply before widths
        (first (miss_rules r.format (sizes m) r.counted)) (miss_guarded opened r m before.format) misses));
    steals = λ r r' ring bursts reply past steals.
        let before = invariant opened fresh r ring bursts past in
        let rule : first (stolen_rules r.format) ≡ cond (eqb opened.format.depth 1) (Some (tells 8 Host 0)) None =
        stolen_rule (eqb r.format.depth 1) ∙ ap (λ g. cond (eqb g.depth 1) (Some (tells 8 Host 0)) None) before.format in (
          steals.receiver,
          steals.refused ∙ rule,
          λ several. steals.told (rule ∙ cond-false (eqb opened.format.depth 1) _ _ (ne_eqb opened.format.depth 1 several)) ∙ ap Ok before.counted,
        );
    restarts = λ r r' ring bursts past restarts. (restarts.format ∙ (invariant opened fresh r ring bursts past).format, restarts.counted);
    fit = λ r ring bursts past. (invariant opened fresh r ring bursts past).keeps.whole;
  }
