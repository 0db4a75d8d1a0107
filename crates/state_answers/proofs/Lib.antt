mod FindingLaws
