-- The laws of what a list says, over every program.
use Rattle.std.proofs.Common.{List, [], ◌∷◌, reverse, subst}
use Rattle.std.proofs.lemmas.List.{reverse-append}
use Rattle.clu_tree.specs.declared.program.Program.{Program}
use Rattle.world_types.specs.declared.event.Told.{Told}
use Rattle.world_types.specs.declared.effects.Entry.{Entry}
use Rattle.world_rules.specs.Said.{rounds, cut, erase, last_stamp}
use Rattle.world_rules.specs.Legal.{InTime, tolds}
use Rattle.world_rules.specs.Node.{IsLegal, first_of_program, rules_of}
use Rattle.world_rules.specs.Laws.{CutLaws, ErasingLaws, FollowingLaws, past_of}
use Rattle.world_types.proofs.Cuts.{cut_mono}
use Rattle.world_rules.proofs.Cuts.{rounds_ordered}
use Rattle.world_rules.proofs.Erasing.{cut-later, erase-plain, plain_erased, snoc}
use Rattle.world_rules.proofs.Following.{in_time, in_time_more, same_effects, tolds-reverse}
use Rattle.world_rules.proofs.Lawfully.{lawful}
use Rattle.world_rules.proofs.Lines.{transcript-more}
use Rattle.world_rules.proofs.Plainly.{erases_legally}

-- a legal list is in time
pub legal_in_time : (program : Program) (list : List Entry) → IsLegal program list → InTime (last_stamp (past_of list)) (past_of list)
legal_in_time program list h =
    subst (λ (past : List Told). InTime (last_stamp past) past) (tolds-reverse list) (in_time (rules_of program) (first_of_program program) (reverse list) h)

pub cut_laws : (program : Program) → CutLaws program
cut_laws program = record {
  rises = λ list t u h l. cut_mono (rounds (past_of list)) (last_stamp (past_of list)) t u (rounds_ordered (last_stamp (past_of list)) (past_of list) (legal_in_time program list h)) l;
  stays = cut-later;
}

pub erasing_laws : (program : Program) → ErasingLaws program
erasing_laws program = record {
  one_more = λ list e h none. snoc (tolds list) e (in_time_more (rules_of program) (first_of_program program) (past_of list) e none (legal_in_time program list h));
  plain_only = λ list. plain_erased (cut (rounds (reverse list))) (reverse list);
  same = same_effects (rules_of program) (first_of_program program);
  legal = λ list h. erases_legally (rules_of program) (first_of_program program) (lawful program) list h;
  again = λ list. erase-plain (erase list) (plain_erased (cut (rounds (reverse list))) (reverse list));
}

pub following_laws : (program : Program) → FollowingLaws program
following_laws program = record {
  past = tolds-reverse;
  written = transcript-more;
  legal = λ list e h follows. rw (reverse-append list (e ∷ [])) (h, rw (tolds-reverse list) follows);
}
