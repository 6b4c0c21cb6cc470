-- What a run on concrete cards computes with.
use Rattle.model.specs.Lists.{tab, same_list, stores}
use Rattle.model.specs.Bits.{reversed, spent_counter, tries_left}
use Rattle.model.specs.Access.{permissions, area_of, stage_of, permission, permits}
use Rattle.model.specs.At88sc1608.{may_read, may_write, merge, blow}
use Rattle.model.specs.Apply as any
use Rattle.model.specs.Cells.{write_cells}
use Rattle.model.specs.Act.{perform, act}
use Rattle.model.specs.Call as calls
use Rattle.model.specs.Record.{kinds, fixed_fields, in_range, data_length, made, decode}
use Rattle.model.specs.Single.{check_of}

-- to unfold this is to unfold all of it
unfoldable pub computed : Unit {0}
unfolding calls.replies calls.final calls.command calls.admission check_of decode kinds fixed_fields in_range data_length made
    act perform any.apply write_cells tab same_list stores may_read may_write merge permissions area_of stage_of permission
    permits reversed spent_counter tries_left blow
computed = tt
