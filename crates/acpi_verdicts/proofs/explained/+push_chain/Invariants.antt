use Rattle.acpi_verdicts.proofs.explained.+push_chain.Given as goal

-- how many methods may still be told
abbrev pub decreases-push_chain : goal.decreases-push_chain
decreases-push_chain l = l.most
