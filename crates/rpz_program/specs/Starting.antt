-- What starting workers does to what they are started with.
use Rattle.std.specs.Prelude.{◌≡◌, ◌≤◌, ℕ, List, Option}
use Rattle.edge_io.specs.Edge.{Rose}
use Rattle.rpz_workers.specs.declared.report.Report.{Report}

-- The wires are used, beside what they tell: no order has failed, their count of faults didn't fall, and it rose where they are blamed.
pub record UsesWires (Blamed : Type 0) (orders_old faults_old orders_new faults_new : ℕ) : Type 0 where
  pub orders : orders_new ≡ orders_old
  pub count : faults_old ≤ faults_new
  pub failed : Blamed → Rose faults_old faults_new

-- The spawner is used, beside how many wait: nothing was gathered, its count of faults didn't fall, and it rose where it is blamed.
pub record UsesSpawner (Blamed : Type 0) (gathered_old : Option (List Report)) (faults_old : ℕ)
    (gathered_new : Option (List Report)) (faults_new : ℕ) : Type 0 where
  pub gathered : gathered_new ≡ gathered_old
  pub count : faults_old ≤ faults_new
  pub failed : Blamed → Rose faults_old faults_new
