use Rattle.place_spec.specs.Layout.{first_layout}
use Rattle.place_spec.specs.Release.{released}
use Rattle.place_spec.proofs.SoundParts.{parts, sound}
use Rattle.place_spec.proofs.Sounds.{first_parts, placing, releasing, moving, reached_parts}
use Rattle.place_spec.proofs.laws.layouts_stay_sound.Goals as goal

pub returns-clause-first : goal.returns-clause-first
returns-clause-first c = λ area. sound area (first_layout area) (first_parts area)

pub returns-clause-placing : goal.returns-clause-placing
returns-clause-placing c = λ rows area layout need bits p h s some e.
    sound area p.after (placing rows area layout need bits p h (parts area layout s) some e)

pub returns-clause-releasing : goal.returns-clause-releasing
returns-clause-releasing c = λ area layout granule s.
    sound area (released area layout granule) (releasing area layout granule (parts area layout s))

pub returns-clause-moving : goal.returns-clause-moving
returns-clause-moving c = λ rows area layout granule need bits p h s some e.
    sound area p.after (moving rows area layout granule need bits p h (parts area layout s) some e)

pub returns-clause-reached : goal.returns-clause-reached
returns-clause-reached c = λ rows area layout h r. sound area layout (reached_parts rows area layout h r)
