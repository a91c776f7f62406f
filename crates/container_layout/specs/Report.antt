-- Reports on one part of a container (document 02): "In every report on a part the opening's refusals come first".
use Rattle.std.specs.Prelude.{List, ℕ}
use Rattle.part_table_layout.specs.Lookup.{find}
use Rattle.wire.specs.Verdict.{◌then◌, check, Verdict}
use Rattle.container_layout.specs.Container.{is_there, data_found, container_judged}

-- the data of the part whose name is the number x; no bytes where there is none
unfoldable pub data_named : List ℕ → ℕ → List ℕ
data_named b x = data_found b (find b x)

-- what a report on that part gives at edition k: what opening gives, 26 where there is no such part, and then what its data are judged by
unfoldable pub reported : (List ℕ → Verdict) → ℕ → ℕ → List ℕ → Verdict
reported judge x k b = container_judged k b then check (is_there (find b x)) 26 0 then judge (data_named b x)
