use Rattle.ip_text.proofs.write.+write_group.Given as goal

abbrev pub decreases-write_group : goal.decreases-write_group
decreases-write_group l = l.group
