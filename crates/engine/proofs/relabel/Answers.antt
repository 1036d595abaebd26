use Rattle.moves.proofs.MoveLaws.{step_stays}
use Rattle.engine.proofs.Carried.{labels_stay, labels_snap, labels_update}
use Rattle.engine.proofs.relabel.Goals as goal

-- A snap for a label and an update; every other move leaves the labels.
pub pending_by-requires : goal.pending_by-requires
pending_by-requires c =
    let s = c.requires in record {
      orderly = s.orderly;
      z_value = s.is_newest c.in-SnapLabel.is;
      k_lt_n = s.inside;
    }

pub returns-in-SnapLabel : goal.returns-in-SnapLabel
returns-in-SnapLabel c job =
    rw c.in-SnapLabel.is (labels_snap c.requires c.pending_by.ensures)

pub returns-in-Update : goal.returns-in-Update
returns-in-Update c job = rw c.in-Update.is (labels_update c.requires)

pub returns-in_default : goal.returns-in_default
returns-in_default c job =
    labels_stay c.requires _ (step_stays c.args.place job c.args.m c.in_default.not-SnapLabel c.in_default.not-Update)
