-- Checks 5, 8, 6, 7: of one stage, and along the order.
--     level_lacks, then_others       the levels, and then the other parameters
--     asks_lack, asks_have           what a check of asks answered
--     first_fails .. none_fails      what each of them answers
--     Sound, sound                   the checks of a stage that passed, as facts
--     passed-named                   naming a stage changes no verdict
--     stages_stop, stages_go     the loop along the order
-- Assumes nothing.
use mathlib.Core.Path.{◌≡◌, refl, sym, ap, ◌∙◌}
use mathlib.Core.Bool.{Bool, true, false, ◌&&◌, and_assoc, true≢false, false≢true}
use mathlib.Core.List.{List, [], ◌∷◌, ◌++◌}
use mathlib.Core.Option.{Option, none, some}
use Prim.Native.Nat.{ℕ, ◌+◌, ◌<◌}
use lib.Dec.{eqb}
use lib.ListN.{length, get_or, drop}
use lib.Ieee.{Float}
use Rattle.order.specs.Order.{runs}
use Rattle.order.specs.Checks.{unless, first, passed, verdict}
use Rattle.std.specs.Prelude.{Ok, Err, is_ok, Some, cond}
use Rattle.std.specs.Prelude as prelude
use Rattle.answers.specs.declared.refusal.Reason.{Reason}
use Rattle.answers.specs.declared.refusal.Reason.TheVariants.{Buffer, Parameter, Clash, Outputs}
use Rattle.answers.specs.declared.refusal.Refusal.{Refusal}
use Rattle.answers.proofs.Verdicts.{unless-passed, first-passed}
use Rattle.magnetron.specs.Buffers.{cleared}
use Rattle.magnetron.specs.Checks.{all_there, no_clash, none_twice}
use Rattle.magnetron.specs.declared.buffer.Marks.{Marks}
use Rattle.magnetron.specs.declared.pool.Pools.{Pools}
use Rattle.answers.specs.Refusal.{result_of}
use Rattle.microwave.specs.Parameter.{looked, reported, all_found}
use Rattle.microwave.specs.declared.parameter.Ask.{Ask}
use Rattle.stages.specs.declared.stage.Stage.{Stage}
use Rattle.stages.specs.declared.window.RenderWindow.{RenderWindow}
use Rattle.stages.specs.Stage.{inputs_of, outputs_of, asks_of, level_asks}
use Rattle.engine.specs.Run.{Plan, stage_at, fault_of, named, fault, turned}
use Rattle.engine.specs.Inside.{returned}
use Rattle.engine.proofs.Lists.{rest}

found_both : (values : List Float) (seconds : Float) (levels rest : List Ask) → all_found (levels ++ rest) values seconds ≡ (all_found levels values seconds && all_found rest values seconds)
unfolding all_found
found_both values seconds [] rest = refl
found_both values seconds (ask ∷ levels) rest =
    ap (λ (b : Bool). eqb (reported (looked ask values seconds)).number 0 && b) (found_both values seconds levels rest)
    ∙ sym (and_assoc (eqb (reported (looked ask values seconds)).number 0) (all_found levels values seconds) (all_found rest values seconds))

-- what check 6 of some asks answered
pub asks_lack : (found : Bool) {r : Reason} → Err r ≡ result_of (cond found none (some Parameter)) → (found ≡ false) × (Err r ≡ result_of (some Parameter))
asks_lack true e = absurd (false≢true (ap is_ok e))
asks_lack false e = (refl, e)

pub asks_have : (found : Bool) → Ok tt ≡ result_of (cond found none (some Parameter)) → found ≡ true
asks_have true e = refl
asks_have false e = absurd (true≢false (ap is_ok e))

module _ (values : List Float) (w : RenderWindow) (t : Stage) where
  abbrev seconds : Float
  seconds = w.render_window_secs

  abbrev others_found : Bool
  others_found = all_found (asks_of t.kind) values seconds

  pub level_lacks : all_found (level_asks t) values seconds ≡ false → all_found (level_asks t ++ asks_of t.kind) values seconds ≡ false
  level_lacks e = found_both values seconds (level_asks t) (asks_of t.kind) ∙ ap (λ (b : Bool). b && others_found) e

  pub then_others : all_found (level_asks t) values seconds ≡ true → all_found (level_asks t ++ asks_of t.kind) values seconds ≡ others_found
  then_others e = found_both values seconds (level_asks t) (asks_of t.kind) ∙ ap (λ (b : Bool). b && others_found) e

-- ---- one stage

module _ (p : Pools) (w : RenderWindow) (values : List Float) (t : Stage) (m : Marks) where
  abbrev there : Bool
  there = all_there p (inputs_of t.kind ++ outputs_of t)

  abbrev differing : Bool
  differing = none_twice (outputs_of t)

  abbrev found : Bool
  found = all_found (level_asks t ++ asks_of t.kind) values w.render_window_secs

  abbrev clear : Bool
  clear = no_clash w.buffer_len (inputs_of t.kind) (outputs_of t) m

  pub first_fails : there ≡ false → Err Buffer ≡ result_of (fault_of p w values t m)
  unfolding fault_of
  first_fails a = rw a refl

  module _ (a : there ≡ true) where
    pub second_fails : differing ≡ false → Err Outputs ≡ result_of (fault_of p w values t m)
    unfolding fault_of
    second_fails b = rw (a, b) refl

    module _ (b : differing ≡ true) where
      pub third_fails : found ≡ false → Err Parameter ≡ result_of (fault_of p w values t m)
      unfolding fault_of
      third_fails c = rw (a, b, c) refl

      module _ (c : found ≡ true) where
        pub fourth_fails : clear ≡ false → Err Clash ≡ result_of (fault_of p w values t m)
        unfolding fault_of
        fourth_fails d = rw (a, b, c, d) refl

        pub none_fails : clear ≡ true → Ok tt ≡ result_of (fault_of p w values t m)
        unfolding fault_of
        none_fails d = rw (a, b, c, d) refl

  pub record Sound : Type 0 where
    pub is_there_lem : there ≡ true
    pub is_differing : differing ≡ true
    pub is_found : found ≡ true
    pub is_clear : clear ≡ true

  pub sound : passed (fault_of p w values t m) ≡ true → Sound
  unfolding fault_of
  sound e =
      let a = first-passed (unless there Buffer) (first (unless differing Outputs) (first (unless found Parameter) (unless clear Clash))) e in
      let b = first-passed (unless differing Outputs) (first (unless found Parameter) (unless clear Clash)) a.1 in
      let c = first-passed (unless found Parameter) (unless clear Clash) b.1 in
      record {
        is_there_lem = unless-passed there Buffer a.0;
        is_differing = unless-passed differing Outputs b.0;
        is_found = unless-passed found Parameter c.0;
        is_clear = unless-passed clear Clash c.1;
      }

pub passed-named : (stage : prelude.Option ℕ) (o : Option Reason) → passed (named stage o) ≡ passed o
passed-named stage none = refl
passed-named stage (some r) = refl

-- ---- along the order

named_stop : (stage : prelude.Option ℕ) (o : Option Reason) (q : Option Refusal) {r : Reason} → Err r ≡ result_of o → Err (record { reason = r; stage = stage }) ≡ returned (first (named stage o) q)
named_stop stage none q e = absurd (false≢true (ap is_ok e))
named_stop stage (some r) q e = cc

pub named_go : (stage : prelude.Option ℕ) (o : Option Reason) (q : Option Refusal) → passed o ≡ true → first (named stage o) q ≡ q
named_go stage none q e = refl
named_go stage (some r) q e = absurd (false≢true e)

pub sound_of : (o : Option Reason) → Ok tt ≡ result_of o → passed o ≡ true
sound_of none e = refl
sound_of (some r) e = absurd (true≢false (ap is_ok e))

module _ (P : Plan) (ks : List ℕ) (j : ℕ) (m : Marks) {v : Option Refusal} (e : verdict (fault P) (turned P) (drop j ks) m ≡ v) where
  abbrev here : Option Reason
  here = fault_of P.pools P.window P.values (stage_at P (get_or ks j 0)) m

  now : j < length ks → first (fault P (get_or ks j 0) m) (verdict (fault P) (turned P) (drop (j + 1) ks) (turned P (get_or ks j 0) m)) ≡ v
  now h = rest (λ (l : List ℕ). verdict (fault P) (turned P) l m) ks j e h

  pub stages_stop : {r : Reason} → j < length ks → Err r ≡ result_of here → Err (record { reason = r; stage = Some (get_or ks j 0) }) ≡ returned v
  unfolding fault
  stages_stop h q = named_stop (Some (get_or ks j 0)) here _ q ∙ ap returned (now h)

  pub stages_go : (m' : Marks) → j < length ks → Ok tt ≡ result_of here → m' ≡ runs cleared (outputs_of (stage_at P (get_or ks j 0))) m
      → verdict (fault P) (turned P) (drop (j + 1) ks) m' ≡ v
  unfolding fault turned
  stages_go m' h q f = rw f (sym (named_go (Some (get_or ks j 0)) here _ (sound_of here q)) ∙ now h)
