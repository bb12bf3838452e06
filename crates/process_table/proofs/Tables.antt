-- What a call makes of a table.
use Rattle.std.proofs.Common.{◌≡◌, ◌≢◌, ℕ, ◌+◌, ◌<◌, ◌≤◌, ◌^◌, false, eqb, [], ◌∷◌, ◌++◌, length, Some, None, arith, length-append}
use Rattle.std.specs.List.{All}
use Rattle.std.specs.List.Sorted.{IsStrictlySortedBy}
use Rattle.std.specs.Cmp.{nat_eq_equiv}
use Rattle.std.specs.Map.{remove_entry, set_value}
use Rattle.std.proofs.lemmas.Bool.Decides.{nat_tests}
use Rattle.std.proofs.lemmas.List.{get_or-map, length-map, map_push}
use Rattle.std.proofs.lemmas.List.Edits.{insert_end}
use Rattle.std.proofs.lemmas.List.Elements.{All-push, All-weaker, All-contains, recursion_from_All}
use Rattle.std.proofs.lemmas.Map.{lookup-insert, lookup-set_value, keys-set_value, length-set_value}
use Rattle.std.proofs.lemmas.Map.Views.{All-map-remove_entry, Contains-keys_from_lookup, exact_unsigned_eq}
use Rattle.machine_rules.specs.declared.status.Status.{Status}
use Rattle.machine_rules.specs.declared.status.Status.TheVariants.{Ready}
use Rattle.process_table.specs.Processes.{Processes, numbers, IsLive, IsTable, ChangesOnly}
use Rattle.process_table.proofs.Places.{lookup-remove, Rise-remove, length-remove_le, sorted_push}

pub IsTable-empty : IsTable (record { live = []; given = 0; picked = 0 })
unfolding IsStrictlySortedBy
IsTable-empty = record { rising = tt; all_given = λ k d within. absurd (omega arith); few_live = omega arith; given_bound = omega arith; picked_given = omega arith }

-- a live process was given its number
pub live_given : (t : Processes) (pid : ℕ) → IsTable t → IsLive t pid → (1 ≤ pid) × (pid ≤ t.given)
live_given t pid table live = All-contains (λ n. (1 ≤ n) × (n ≤ t.given)) (numbers t) pid table.all_given (Contains-keys_from_lookup exact_unsigned_eq pid t.live live)

module _ (t : Processes) (table : IsTable t) where
  pub IsTable-add : length t.live ≢ 1024 → t.given ≢ 2 ^ 62 → IsTable (record t { live = t.live ++ (t.given + 1, Ready) ∷ []; given = t.given + 1 })
  IsTable-add room more = record {
    rising = rw map_push (sorted_push (numbers t) (t.given + 1) table.rising (recursion_from_All _ _ (All-weaker (λ n. (1 ≤ n) × (n ≤ t.given)) (λ n. n < t.given + 1) (λ n h. omega (arith, h.1)) (numbers t) table.all_given)));
    all_given = rw map_push (All-push (λ n. (1 ≤ n) × (n ≤ t.given + 1)) (numbers t) (t.given + 1) (All-weaker (λ n. (1 ≤ n) × (n ≤ t.given)) (λ n. (1 ≤ n) × (n ≤ t.given + 1)) (λ n h. (h.0, omega (arith, h.1))) (numbers t) table.all_given) (omega arith, omega arith));
    few_live = omega (arith, table.few_live, length-append t.live ((t.given + 1, Ready) ∷ []));
    given_bound = omega (arith, table.given_bound);
    picked_given = omega (arith, table.picked_given);
  }

  pub ChangesOnly-add : ChangesOnly t (record t { live = t.live ++ (t.given + 1, Ready) ∷ []; given = t.given + 1 }) (t.given + 1) (Some Ready)
  ChangesOnly-add other =
      let new : All (λ (e : ℕ × Status). eqb (t.given + 1) e.0 ≡ false) t.live = λ k d within.
      let below = (table.all_given k d.0 (rw length-map within)).1 in
      let at = get_or-map (λ (e : ℕ × Status). e.0) t.live k d d.0 within in
      grind (arith, nat_tests) in
      rw (← insert_end t.live (t.given + 1, Ready)) (lookup-insert nat_eq_equiv (t.given + 1) Ready other t.live (length t.live) (recursion_from_All _ _ new))

  pub IsTable-picked : (pid : ℕ) → IsLive t pid → IsTable (record t { picked = pid })
  IsTable-picked pid live = record { rising = table.rising; all_given = table.all_given; few_live = table.few_live; given_bound = table.given_bound; picked_given = (live_given t pid table live).1 }

  pub IsTable-set : (pid : ℕ) (status : Status) → IsTable (record t { live = set_value (eqb pid) t.live status })
  IsTable-set pid status = record {
    rising = rw keys-set_value table.rising;
    all_given = rw keys-set_value table.all_given;
    few_live = rw length-set_value table.few_live;
    given_bound = table.given_bound;
    picked_given = table.picked_given;
  }

  pub ChangesOnly-set : (pid : ℕ) (status : Status) → IsLive t pid → ChangesOnly t (record t { live = set_value (eqb pid) t.live status }) pid (Some status)
  ChangesOnly-set pid status live other = lookup-set_value nat_eq_equiv (eqb pid) (λ x y same. nat_eq_equiv.congr pid x y same) other status t.live live

  pub IsTable-end : (pid : ℕ) → IsTable (record t { live = remove_entry (eqb pid) t.live })
  IsTable-end pid = record {
    rising = Rise-remove pid t.live table.rising;
    all_given = All-map-remove_entry (eqb pid) (λ e. e.0) (λ n. (1 ≤ n) × (n ≤ t.given)) t.live table.all_given;
    few_live = omega (arith, table.few_live, length-remove_le pid t.live);
    given_bound = table.given_bound;
    picked_given = table.picked_given;
  }

  pub ChangesOnly-end : (pid : ℕ) → ChangesOnly t (record t { live = remove_entry (eqb pid) t.live }) pid None
  ChangesOnly-end pid other = lookup-remove pid other t.live table.rising
