use Rattle.value_texts.proofs.topic_name.parts_of.Goals as goal

pub returns-in_err-after_scheme-clause-all_parted : goal.returns-in_err-after_scheme-clause-all_parted
returns-in_err-after_scheme-clause-all_parted c tenant namespace topic t n e = absurd (c.in_err-after_scheme.ensures.all_parted _ e)
